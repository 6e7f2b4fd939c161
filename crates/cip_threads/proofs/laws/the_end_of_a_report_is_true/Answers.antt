use Rattle.std.proofs.Common.{◌≡◌, ◌<◌, ◌+◌, ◌∙◌, ◌++◌, List, sym, ap, subst, length}
use Rattle.std.proofs.lemmas.List.{append-nil}
use Rattle.cip_base.specs.declared.numbers.ModuleId.{ModuleId}
use Rattle.cip_event.specs.declared.frame.FrameName.{FrameName}
use Rattle.cip_threads.specs.declared.feed.Feed.{Feed}
use Rattle.cip_threads.specs.Feeds.{feeds_of, fed}
use Rattle.cip_threads.proofs.laws.the_end_of_a_report_is_true.Goals as goal

pub returns-clause-frames : goal.returns-clause-frames
returns-clause-frames c t given turns j tables feeds frames r = sym r.waits ∙ r.ends.1

pub returns-clause-feeds : goal.returns-clause-feeds
returns-clause-feeds c t given turns j tables feeds frames r m =
    r.fed_all m ∙ ap (λ (left : List (ModuleId × Feed)). fed m j ++ feeds_of m left) r.ends.0 ∙ append-nil (fed m j)

pub returns-clause-turns : goal.returns-clause-turns
returns-clause-turns c t given turns j tables feeds frames r = r.ends.1

pub returns-clause-left : goal.returns-clause-left
returns-clause-left c t given turns j tables feeds frames r =
    subst (λ (waits : List FrameName). 0 < length feeds + length waits) r.waits r.ends.0
