-- A call's refusals name their twins, and its order.
mod WalkNames
mod Ordered
