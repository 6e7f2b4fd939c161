use Rattle.std.proofs.Common.{◌≡◌, ◌<◌, length, None, Some, lit<}
use Rattle.std.specs.List.{position_or_len, after_first}
use Rattle.std.proofs.lemmas.Str.Pattern.{split_once_first}
use Rattle.cip_words.specs.Shown.{is_dot}
use Rattle.cip_words.proofs.Splits.{halves_without, halves_with_more, halves_with_one}
use Rattle.cip_words.proofs.reading.halves.Goals as goal

pub returns-in_default : goal.returns-in_default
returns-in_default c = halves_without c.args.word.now (split_once_first 46 c.args.word.now None c.in_default.ensures.cases (lit< tt))

pub returns-in-Some-split_once : goal.returns-in-Some-split_once
returns-in-Some-split_once c =
    let w = c.args.word.now in
    let h = split_once_first 46 w (Some (c.in-Some.first, c.in-Some.rest)) c.in-Some.ensures.cases (lit< tt) in
    let more = split_once_first 46 c.in-Some.rest.now (Some c.in-Some-split_once.field-0) c.in-Some-split_once.ensures.cases (lit< tt) in
    let two : position_or_len is_dot (after_first is_dot w) < length (after_first is_dot w) = rw h.2 at more.0 in
    halves_with_more w h.0 two

pub returns-in-None : goal.returns-in-None
returns-in-None c =
    let w = c.args.word.now in
    let h = split_once_first 46 w (Some (c.in-Some.first, c.in-Some.rest)) c.in-Some.ensures.cases (lit< tt) in
    let none = split_once_first 46 c.in-Some.rest.now None c.in-None.ensures.cases (lit< tt) in
    let last : position_or_len is_dot (after_first is_dot w) ≡ length (after_first is_dot w) = rw h.2 at none in
    rw (h.1, h.2) (halves_with_one w h.0 last)
