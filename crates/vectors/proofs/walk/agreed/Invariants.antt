-- `vectors::walk::agreed` meets its contract. The loop's invariant: where no part has more than m that agree, as many parts have no more than m each.
use Prim.Native.Nat.{ℕ, ◌≤◌, ◌*◌}
use Rattle.std.specs.Option.{ForSome}
use Rattle.vectors.proofs.walk.agreed.Given as goal

abbrev pub invariant-loop : goal.invariant-loop
invariant-loop g l =
    goal.F-IsAlwaysCallable g l.part
    × ((m : ℕ) → ((p : _) (x : _) (r : _) (q : _) → goal.F-step g p x r q → ForSome r (λ t. t.agreed ≤ m)) → l.count ≤ m * l.counter)
