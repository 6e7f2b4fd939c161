use Rattle.std.proofs.Common.{◌≡◌, ℕ, [], ◌∷◌, ◌++◌, Result, Ok, Err, sym, ap, ◌∙◌, MatchResult, length, Bor, List}
use Rattle.std.proofs.lemmas.List.{nil_from_length}
use Rattle.cip_segment.specs.declared.segment.Segment.{Segment}
use Rattle.cip_tool.specs.declared.fault.RouteFault.{RouteFault}
use Rattle.cip_tool.specs.declared.fault.RouteFault.TheVariants.{NoMemory}
use Rattle.cip_tool.specs.Words.{texts}
use Rattle.cip_tool.specs.Routes.{IsTaken, RouteFails, words_from}
use Rattle.cip_tool.proofs.Routed.{taken_one, taken_two, fails_one, fails_two, fails_lone, added}
use Rattle.cip_tool.proofs.reading.take_first.Goals as goal

pub returns-in-Ok-clause-taken : goal.returns-in-Ok-clause-taken
returns-in-Ok-clause-taken c =
    let e = c.in-Some.ensures.cases.0 in
    added c.add.result 1 _ _ _ _ _ c.add.ensures.added
    (λ sum. taken_one c.args.place c.args.words.now c.in-Some.word.now c.in-Some.after.now _ _ _ e (sym c.is_segment.ensures ∙ c.if-is_segment.true)
    c.in-Ok.ensures.gives sum)

pub returns-in-Err-clause-taken : goal.returns-in-Err-clause-taken
returns-in-Err-clause-taken c =
    let e = c.in-Some.ensures.cases.0 in
    fails_one c.args.place c.args.words.now c.in-Some.word.now c.in-Some.after.now c.in-Err.fault e (sym c.is_segment.ensures ∙ c.if-is_segment.true)
    c.in-Err.ensures.gives

pub returns-in_default-split_first-clause-taken : goal.returns-in_default-split_first-clause-taken
returns-in_default-split_first-clause-taken c =
    let e = c.in-Some.ensures.cases.0 in
    let none : c.in-Some.after.now ≡ [] = nil_from_length _ c.in_default-split_first.ensures.cases in
    let last = e ∙ ap (λ (l : List (Bor (List ℕ))). c.in-Some.word.now ∷ l) none in
    fails_lone c.args.place c.args.words.now c.in-Some.word.now c.lone.result last (sym c.is_segment.ensures ∙ c.if-is_segment.false) c.lone.ensures

pub returns-in-Ok-hop_at-clause-taken : goal.returns-in-Ok-hop_at-clause-taken
returns-in-Ok-hop_at-clause-taken c =
    let e = c.in-Some.ensures.cases.0 in
    let f = c.in-Some-split_first.ensures.cases.0 in
    let both = e ∙ ap (λ (l : List (Bor (List ℕ))). c.in-Some.word.now ∷ l) f in
    added c.add-in-Ok-hop_at.result 2 _ _ _ _ _ c.add-in-Ok-hop_at.ensures.added
    (λ sum. taken_two c.args.place c.args.words.now c.in-Some.word.now c.in-Some-split_first.address.now c.in-Some-split_first.field-0-1.now _ _ _ both
    (sym c.is_segment.ensures ∙ c.if-is_segment.false) c.in-Ok-hop_at.ensures.gives sum)

pub returns-in-Err-hop_at-clause-taken : goal.returns-in-Err-hop_at-clause-taken
returns-in-Err-hop_at-clause-taken c =
    let e = c.in-Some.ensures.cases.0 in
    let f = c.in-Some-split_first.ensures.cases.0 in
    let both = e ∙ ap (λ (l : List (Bor (List ℕ))). c.in-Some.word.now ∷ l) f in
    fails_two c.args.place c.args.words.now c.in-Some.word.now c.in-Some-split_first.address.now c.in-Some-split_first.field-0-1.now c.in-Err-hop_at.fault both
    (sym c.is_segment.ensures ∙ c.if-is_segment.false) c.in-Err-hop_at.ensures.gives
