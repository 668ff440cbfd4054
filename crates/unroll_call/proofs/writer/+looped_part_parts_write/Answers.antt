use mathlib.Core.Path.{refl}
use native.Mathlib.Omega.{arith}
use borrow.Author.Rules.{rules}
use Rattle.spec_sequence.specs.Commands.{Command}
use Rattle.unroll_call.proofs.Putting.{put_then}
use Rattle.unroll_call.proofs.Writing.{own_nothing, own_deliver, own_try, own_present, leaf_room, leaf-writes, one-head, one-writable, one_writes, loop-writable, loop-writes, two-head, two-writable, two-writes, four_or_five, both-head, both-writable, both-writes, wide-head, wide-writable, wide-writes, other, first-writable, second-writable, loop-room, copy-ready, whole-writable, whole-writes}
use Rattle.unroll_call.proofs.writer.+looped_part_parts_write.Goals as goal

pub looped-put_two-j-requires : goal.looped-put_two-j-requires
looped-put_two-j-requires t c = loop-room c.requires.writable_loop

pub looped-copy-k-requires : goal.looped-copy-k-requires
looped-copy-k-requires t c = copy-ready c.requires.writable_loop c.put_two-j.ensures

pub looped-part-requires : goal.looped-part-requires
looped-part-requires t c = (search rules, (c.requires.in_bounds, whole-writable c.requires.writable_loop c.put_two-j.ensures c.copy-k.ensures))

pub looped-returns : goal.looped-returns
looped-returns t c = whole-writes c.requires.writable_loop c.put_two-j.ensures c.copy-k.ensures c.part.ensures

pub part-write-requires : goal.part-write-requires
part-write-requires t c = (search rules, c.requires.writable)

pub part-returns : goal.part-returns
part-returns t c = c.write.ensures

pub parts-offset_bounds-second-at : goal.parts-offset_bounds-second-at
parts-offset_bounds-second-at t c = record { fits = omega (arith, (first-writable c.requires).1.ready.fits) }

pub parts-bounds-second-at : goal.parts-bounds-second-at
parts-bounds-second-at t c = let r = (first-writable (c.requires)).1.ready in omega (arith, r.fits, r.bytes, r.long)

pub parts-overflow_cast-m : goal.parts-overflow_cast-m
parts-overflow_cast-m t c = record { fits = omega (arith, c.requires.pair.two.room) }

pub parts-overflow_sub-depth : goal.parts-overflow_sub-depth
parts-overflow_sub-depth t c = omega (arith, (first-writable (c.requires)).1.ready.levels)

pub parts-part-j-requires : goal.parts-part-j-requires
parts-part-j-requires t c = (omega (arith, (first-writable (c.requires)).1.ready.levels), first-writable c.requires)

pub parts-overflow_sub-m : goal.parts-overflow_sub-m
parts-overflow_sub-m t c = omega (arith, c.requires.pair.two.place)

pub parts-overflow_sub-depth-2 : goal.parts-overflow_sub-depth-2
parts-overflow_sub-depth-2 t c = omega (arith, (first-writable (c.requires)).1.ready.levels)

pub parts-part-requires : goal.parts-part-requires
parts-part-requires t c = (omega (arith, (first-writable (c.requires)).1.ready.levels), second-writable c.requires c.part-j.ensures)

pub parts-returns : goal.parts-returns
parts-returns t c = λ base p q l. put_then (c.part-j.ensures base p l.first) (c.part.ensures _ q l.second)

pub write-own-requires : goal.write-own-requires
write-own-requires t c = let o = leaf_room c.requires Command.nothing refl c.in-0.is own_nothing in record { in_bounds = o.0; room = o.1 }

pub write-looped-requires : goal.write-looped-requires
write-looped-requires t c = (search rules, loop-writable c.requires c.in-6.is)

pub write-own-requires-in-7 : goal.write-own-requires-in-7
write-own-requires-in-7 t c = let o = two-head c.requires Command.present refl c.in-7.is own_present in record { in_bounds = o.0; room = o.1 }

pub write-own-j-requires-in-9 : goal.write-own-j-requires-in-9
write-own-j-requires-in-9 t c = let o = one-head c.requires Command.try refl c.in-9.is own_try in record { in_bounds = o.0; room = o.1 }

pub write-part-requires-in-9 : goal.write-part-requires-in-9
write-part-requires-in-9 t c = (search rules, one-writable c.requires Command.try refl c.in-9.is own_try c.own-j-in-9.ensures)

pub write-own-requires-in-12 : goal.write-own-requires-in-12
write-own-requires-in-12 t c = let o = leaf_room c.requires Command.deliver refl c.in-12.is own_deliver in record { in_bounds = o.0; room = o.1 }

pub write-own-requires-in_default : goal.write-own-requires-in_default
write-own-requires-in_default t c = let o = other c.requires (search rules) in record { in_bounds = o.there; room = o.room }

pub write-returns-in-0 : goal.write-returns-in-0
write-returns-in-0 t c = leaf-writes c.requires Command.nothing refl c.in-0.is own_nothing c.own.ensures

pub write-returns-in-6 : goal.write-returns-in-6
write-returns-in-6 t c = loop-writes c.requires c.in-6.is c.looped.ensures

pub write-returns-in-9 : goal.write-returns-in-9
write-returns-in-9 t c = one_writes c.requires Command.try refl c.in-9.is own_try c.own-j-in-9.ensures c.part-in-9.ensures

pub write-returns-in-12 : goal.write-returns-in-12
write-returns-in-12 t c = leaf-writes c.requires Command.deliver refl c.in-12.is own_deliver c.own-in-12.ensures

pub write-returns-in_default : goal.write-returns-in_default
write-returns-in_default t c = (other c.requires (search rules)).writes c.own-in_default.ensures

pub write-own-requires-in-4 : goal.write-own-requires-in-4
write-own-requires-in-4 t c = let o = both-head c.requires (four_or_five _ (omega arith) (omega arith)) in record { in_bounds = o.0; room = o.1 }

pub write-parts-requires-in-4 : goal.write-parts-requires-in-4
write-parts-requires-in-4 t c = (search rules, both-writable c.requires (four_or_five _ (omega arith) (omega arith)) c.own-in-4.ensures)

pub write-parts-requires : goal.write-parts-requires
write-parts-requires t c = (search rules, two-writable c.requires Command.present refl c.in-7.is own_present c.own-in-7.ensures)

pub write-own-j-requires : goal.write-own-j-requires
write-own-j-requires t c = let o = wide-head c.requires c.in-8.is in record { in_bounds = o.0; room = o.1 }

pub write-part-requires : goal.write-part-requires
write-part-requires t c = (search rules, wide-writable c.requires c.in-8.is c.own-j.ensures)

pub write-returns-in-4 : goal.write-returns-in-4
write-returns-in-4 t c = both-writes c.requires (four_or_five _ (omega arith) (omega arith)) c.own-in-4.ensures c.parts-in-4.ensures

pub write-returns-in-7 : goal.write-returns-in-7
write-returns-in-7 t c = two-writes c.requires Command.present refl c.in-7.is own_present c.own-in-7.ensures c.parts.ensures

pub write-returns-in-8 : goal.write-returns-in-8
write-returns-in-8 t c = wide-writes c.requires c.in-8.is c.own-j.ensures c.part.ensures
