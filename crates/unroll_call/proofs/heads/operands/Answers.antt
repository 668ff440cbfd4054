use native.Mathlib.Omega.{arith}
use borrow.Author.Rules.{rules}
use Rattle.unroll_call.proofs.Putting.{put-none, room_of, five}
use Rattle.unroll_call.proofs.heads.operands.Goals as goal

pub returns-in-0 : goal.returns-in-0
returns-in-0 c = rw c.in-0.is put-none

pub own-requires : goal.own-requires
own-requires c = record { in_bounds = omega (arith, c.in-1.is, c.requires.there); room = room_of c.requires.room c.in-1.is }

pub returns-in-1 : goal.returns-in-1
returns-in-1 c = rw c.in-1.is c.own.ensures

pub own-requires-in_default : goal.own-requires-in_default
own-requires-in_default c = let e = five c.requires (search rules) (search rules) in record { in_bounds = omega (arith, e, c.requires.there); room = room_of c.requires.room e }

pub returns-in_default : goal.returns-in_default
returns-in_default c = rw (five c.requires (search rules) (search rules)) c.own-in_default.ensures
