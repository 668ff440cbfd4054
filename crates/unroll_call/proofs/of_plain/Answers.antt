use Rattle.unroll_call.proofs.Deciding.{long-refused, depth-refused, written, writable}
use Rattle.unroll_call.proofs.of_plain.Goals as goal
use Rattle.unroll_call.proofs.of_plain.Goals.{then-n-gt-MAX_BYTES-via-then-n-gt-MAX_BYTES, then-n-gt-MAX_BYTES-via-else-n-gt-MAX_BYTES+then-n-gt-MAX_DEPTH}

pub returns-then-n-gt-MAX_BYTES : goal.returns-then-n-gt-MAX_BYTES
returns-then-n-gt-MAX_BYTES c p l =
    let has = c.of_statement-n.ensures 0 p l in
    elim c.then-n-gt-MAX_BYTES.branch [
      | then-n-gt-MAX_BYTES-via-then-n-gt-MAX_BYTES w ↦ long-refused p has _ w.if-n-gt-MAX_BYTES.true
      | then-n-gt-MAX_BYTES-via-else-n-gt-MAX_BYTES+then-n-gt-MAX_DEPTH w ↦ depth-refused p has _ w.if-n-gt-MAX_DEPTH.true
    ]

pub write-requires : goal.write-requires
write-requires c = let r = c.requires.ready in writable r (c.of_statement-n.ensures r.base r.p r.lies) c.if-n-gt-MAX_BYTES.false c.if-n-gt-MAX_DEPTH.false c.requires.buffer_len

pub returns : goal.returns
returns c = λ p l. written p (c.of_statement-n.ensures 0 p l) _ c.if-n-gt-MAX_BYTES.false c.if-n-gt-MAX_DEPTH.false c.requires.buffer_len (c.write.ensures 0 p l)
