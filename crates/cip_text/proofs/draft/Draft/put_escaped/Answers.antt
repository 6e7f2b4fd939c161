use Rattle.std.proofs.Common.{arith}
use Rattle.std.proofs.lemmas.Str.{IsCharBoundary-before_ascii, IsCharBoundary-after_ascii}
use Rattle.cip_text.proofs.Escaping.{marked_ascii}
use Rattle.cip_text.proofs.draft.Draft.put_escaped.Goals as goal

pub bounds-as_bytes-at : goal.bounds-as_bytes-at
bounds-as_bytes-at c = omega (arith, c.in-Some.ensures.within, c.as_bytes.ensures.len, c.as_bytes-in-Some.ensures.len)

pub escape-marked-requires : goal.escape-marked-requires
escape-marked-requires c = rw (c.as_bytes-in-Some.ensures.value) (rw (c.as_bytes.ensures.value) at c.in-Some.ensures.marked)

pub range-requires-clause-end_boundary : goal.range-requires-clause-end_boundary
range-requires-clause-end_boundary c =
    let first = rw (c.as_bytes.ensures.value) at c.in-Some.ensures in
    IsCharBoundary-before_ascii c.parts.rest.now c.in-Some.at first.within (marked_ascii _ first.marked)

pub range_from-rest-requires : goal.range_from-rest-requires
range_from-rest-requires c =
    let first = rw (c.as_bytes.ensures.value) at c.in-Some.ensures in
    λ _. IsCharBoundary-after_ascii c.parts.rest.now c.in-Some.at c.parts.invariant.text first.within (marked_ascii _ first.marked)
