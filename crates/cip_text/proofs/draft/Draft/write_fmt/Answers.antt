use Rattle.std.proofs.lemmas.Option.{IfSome_then}
use Rattle.std.proofs.lemmas.Fmt.{contents_after_writes}
use Rattle.cip_text.proofs.draft.Draft.write_fmt.Goals as goal

pub returns-in-Ok : goal.returns-in-Ok
returns-in-Ok g c = IfSome_then _ c.in-Ok.ensures.writes (λ bs. contents_after_writes _ (λ s. s) (λ _ _ _ t. t) _ bs _)
