use Rattle.std.proofs.Common.{◌≡◌, ℕ, List, [], ◌∷◌, length, Ok, ap, refl, sym, ◌∙◌, eqb-true, arith}
use Rattle.cip_message.specs.Numbers.{words_in}
use Rattle.cip_message.specs.Reply.{Reply, done_with}
use Rattle.cip_open.specs.Kinds.{open_reply_service}
use Rattle.cip_open.specs.Reading.{success_of}
use Rattle.played_parts.proofs.edited_messages.is_success.Goals as goal

done_is : (service s g : ℕ) (e d : List ℕ) → s ≡ service → g ≡ 0 → e ≡ []
    → record { service = s; general = g; extra = words_in e; data_ = d } ≡ done_with service d
done_is service s g e d es eg ee = rw (es, eg, ee) refl

empty : (e : List ℕ) → length e ≡ 0 → e ≡ []
empty [] n = refl
empty (x ∷ e) n = absurd (omega arith)

pub returns-else-reply-ne0 : goal.returns-else-reply-ne0
returns-else-reply-ne0 c =
    λ none.
    let n : length c.in-Ok.reply.extra.now ≡ 0 = eqb-true _ _ (sym c.is_empty.ensures ∙ none) in
    let d : List ℕ = c.in-Ok.reply.data_.now in
    let done = done_is (open_reply_service c.args.large) c.in-Ok.reply.service c.in-Ok.reply.general c.in-Ok.reply.extra.now d
    (c.if-reply-open_reply_service.false ∙ c.open_reply_service.ensures) c.if-reply-ne0.false (empty _ n) in (
      success_of c.in-Ok-read_open_reply.field-0,
      record {
        data_ = d;
        reply = c.in-Ok.ensures.gives ∙ ap (λ (r : Reply). Ok r) done;
        is = c.in-Ok-read_open_reply.ensures.read.gives;
      },
    )
