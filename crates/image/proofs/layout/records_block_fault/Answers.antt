-- `image::layout::records_block_fault` meets its contract: part by part, whatever rule the record's check follows.
use borrow.Author.Rules.{rules}
use Rattle.image.proofs.Finds.{finds}
use Rattle.image.proofs.Block.{sized, block_split}
use Rattle.image.proofs.layout.records_block_fault.Goals as goal

pub returns-in-Some : goal.returns-in-Some
returns-in-Some g c = λ wrong h.
    let a = c.args in
    rw (block_split wrong a.kind a.bytes a.m a.n a.from a.b a.s.now (sized a.bytes a.m c.requires.room.0 c.requires.room.1), ← c.held-records.ensures.value) (search (finds, rules))

pub returns-in-Some-records_fault : goal.returns-in-Some-records_fault
returns-in-Some-records_fault g c = λ wrong h.
    let a = c.args in
    let e = c.records_fault.ensures (wrong a.s.now) h in
    rw (block_split wrong a.kind a.bytes a.m a.n a.from a.b a.s.now (sized a.bytes a.m c.requires.room.0 c.requires.room.1), ← c.held-records.ensures.value) (search (finds, rules))

pub returns : goal.returns
returns g c = λ wrong h.
    let a = c.args in
    let e = c.records_fault.ensures (wrong a.s.now) h in
    rw (block_split wrong a.kind a.bytes a.m a.n a.from a.b a.s.now (sized a.bytes a.m c.requires.room.0 c.requires.room.1), ← c.held-records.ensures.value) (search (finds, rules))
