-- The ops that a reset ends, one by one; and that an op is used up after what it asks as before it.
use Rattle.std.proofs.Common.{◌≡◌, ℕ, Bool, true, false, not, cond, ◌&&◌, List, [], ◌∷◌, ◌++◌, Option, Some, None, refl, sym, ap, ◌∙◌, append-nil}
use Rattle.std.specs.List.{filter_map, cons_option}
use Rattle.cip_message.specs.Request.{Request}
use Rattle.cip_message.specs.Reply.{reply_bytes}
use Rattle.cip_unconnected.specs.Unconnected.{Unconnected}
use Rattle.cip_pending.specs.declared.entry.Entry.{Entry}
use Rattle.cip_pending.specs.declared.entry.UpSide.{UpSide}
use Rattle.cip_pending.specs.declared.entry.UpSide.TheVariants.{Local}
use Rattle.cip_hops.specs.declared.hop.Hop.{Hop}
use Rattle.cip_target.specs.Rows.{TargetRow, Refused, Read, Written, Reset, is_reset, answer_of, assemblies_after, plain_reply}
use Rattle.cip_target.specs.Objects.{row_of, reads_reset, target_answer}
use Rattle.cip_target.proofs.ReadsReset.{what_resets}
use Rattle.cip_config.specs.declared.config.ModuleSettings.{ModuleSettings}
use Rattle.cip_event.specs.declared.event.Output.{Output}
use Rattle.cip_routing.specs.Answers.{answered, failure_bytes}
use Rattle.cip_routing.specs.Statuses.{plain}
use Rattle.cip_routing.specs.Effects.{Answers, objects_of, resets, lacks_incarnation, here_answer, answered_state, ended_by, reply_up, applied, outputs_of}
use Rattle.cip_routing.specs.Resets.{can_reset, reset_state, held_ops, all_ended, asking_op, opening_op, noted, all_noted}
use Rattle.cip_routing.specs.State.{State, spent_with}
use Rattle.cip_routing.specs.Table.{unconnected_effects, with_spending}
use Rattle.cip_routing.specs.UnconnectedRows.{UnconnectedRow, Refuses, AnsweredHere, Forwarded}
use Rattle.cip_steps.specs.Code.Does.{Does, HasDone}

abbrev pub waiting_in : List (ℕ × Entry) → List ℕ
waiting_in es = filter_map (λ (e : ℕ × Entry). asking_op e.1.up) es

abbrev pub opened_in : List Hop → List ℕ
opened_in hops = filter_map opening_op hops

-- the op of the next one is noted, and those of the others are left
pub noted_next : {X : Type 0} (f : X → Option ℕ) (ops : List ℕ) (x : X) (xs left : List X) (op : ℕ) → left ≡ x ∷ xs → f x ≡ Some op
    → all_noted (noted op ops) (filter_map f xs) ≡ all_noted ops (filter_map f left)
noted_next {X} f ops x xs left op e is =
    sym (ap (λ (z : List X). all_noted ops (filter_map f z)) e ∙ ap (λ (o : Option ℕ). all_noted ops (cons_option o (filter_map f xs))) is)

-- the next one has none
pub none_next : {X : Type 0} (f : X → Option ℕ) (ops : List ℕ) (x : X) (xs left : List X) → left ≡ x ∷ xs → f x ≡ None
    → all_noted ops (filter_map f xs) ≡ all_noted ops (filter_map f left)
none_next {X} f ops x xs left e is =
    sym (ap (λ (z : List X). all_noted ops (filter_map f z)) e ∙ ap (λ (o : Option ℕ). all_noted ops (cons_option o (filter_map f xs))) is)

-- ---- a reset, and one that there is no incarnation for

reset_alone : (row : TargetRow) → is_reset row ≡ true → row ≡ Reset
reset_alone (Refused refusal) e = absurd (cc)
reset_alone (Read found) e = absurd (cc)
reset_alone (Written i d) e = absurd (cc)
reset_alone Reset e = refl

both : (a b c d : Bool) → a ≡ c → b ≡ d → (a && b) ≡ (c && d)
both a b c d e f = ap (λ x. x && b) e ∙ ap (λ x. c && x) f

module _ (config : ModuleSettings) (s : State) (up : UpSide) (r : Request) (reads : reads_reset (objects_of config s) r ≡ true) where
  row : row_of (objects_of config s) r ≡ Reset
  row = reset_alone (row_of (objects_of config s) r) reads

  service : r.service ≡ 0x05
  service = ((what_resets (objects_of config s) r).0 reads).service

  unchanged : answered_state false config s r ≡ s
  unchanged = ap (λ (x : TargetRow). record s { assemblies = assemblies_after s.assemblies x }) row

  pub conflicts : (out : Output) → can_reset s ≡ false → out ≡ reply_up up (failure_bytes 0x05 (plain 0x0C)) → Does config s (Answers up r ∷ []) s (out ∷ [])
  conflicts out cannot is =
      let none : resets config s r ≡ false = both _ (can_reset s) true false reads cannot in
      let lacks : lacks_incarnation config s r ≡ true = both _ (not (can_reset s)) true true reads (ap not cannot) in record {
        state = ap (λ b. answered_state b config s r) none ∙ unchanged;
        out = ap (λ b. reply_up up (reply_bytes (here_answer config s r)) ∷ (ended_by b s ++ [])) none
            ∙ ap (λ b. reply_up up (reply_bytes (cond b (plain_reply r.service 0x0C []) (target_answer (objects_of config s) r))) ∷ []) lacks
            ∙ ap (λ n. reply_up up (reply_bytes (plain_reply n 0x0C [])) ∷ []) service
            ∙ ap (λ (o : Output). o ∷ []) (sym is);
      }

  pub carried_out : (new : State) (reply : Output) (outs : List Output) → can_reset s ≡ true → reply ≡ reply_up up (answered 0x05 (plain 0) [])
      → outs ≡ reply ∷ all_ended (held_ops s) → new ≡ reset_state s → Does config s (Answers up r ∷ []) new outs
  carried_out new reply outs can is told done =
      let yes : resets config s r ≡ true = both _ (can_reset s) true true reads can in
      let none : lacks_incarnation config s r ≡ false = both _ (not (can_reset s)) true false reads (ap not can) in record {
        state = ap (λ b. answered_state b config s r) yes ∙ sym done;
        out = ap (λ b. reply_up up (reply_bytes (here_answer config s r)) ∷ (ended_by b s ++ [])) yes
            ∙ ap (λ b. reply_up up (reply_bytes (cond b (plain_reply r.service 0x0C []) (target_answer (objects_of config s) r)))
            ∷ (all_ended (held_ops s) ++ [])) none
            ∙ ap (λ (x : TargetRow). reply_up up (reply_bytes (answer_of r.service x)) ∷ (all_ended (held_ops s) ++ [])) row
            ∙ ap (λ n. reply_up up (reply_bytes (answer_of n Reset)) ∷ (all_ended (held_ops s) ++ [])) service
            ∙ ap (λ (os : List Output). reply_up up (reply_bytes (answer_of 0x05 Reset)) ∷ os) (append-nil (all_ended (held_ops s)))
            ∙ ap (λ (o : Output). o ∷ all_ended (held_ops s)) (sym is)
            ∙ sym told;
      }

-- ---- an op that is used up after what it asks

module _ (config : ModuleSettings) (s : State) (op : ℕ) (u : Unconnected) where
  abbrev used : State → State
  used t = record t { ops = spent_with op s.ops }

  later_answer : (b : Bool) (r : Request) → answered_state b config (used s) r ≡ used (answered_state b config s r)
  later_answer true r = refl
  later_answer false r = refl

  same_ended : (b : Bool) → ended_by b (used s) ≡ ended_by b s
  same_ended true = refl
  same_ended false = refl

  later : (row : UnconnectedRow) → applied config (used s) (unconnected_effects (Local op) u row)
      ≡ used (applied config s (unconnected_effects (Local op) u row))
  later (Refuses refusal) = refl
  later (AnsweredHere embedded) = later_answer (resets config s embedded) embedded
  later (Forwarded port address rest) = refl

  same_out : (row : UnconnectedRow) → outputs_of config (used s) (unconnected_effects (Local op) u row)
      ≡ outputs_of config s (unconnected_effects (Local op) u row)
  same_out (Refuses refusal) = refl
  same_out (AnsweredHere embedded) =
      ap (λ (os : List Output). reply_up (Local op) (reply_bytes (here_answer config s embedded)) ∷ (os ++ [])) (same_ended (resets config s embedded))
  same_out (Forwarded port address rest) = refl

  pub used_after : (config' config'' : ModuleSettings) (mid new : State) (row : UnconnectedRow) (outs : List Output)
      → HasDone config s config' mid (unconnected_effects (Local op) u row) outs → new ≡ used mid → config'' ≡ config'
      → HasDone config s config'' new (with_spending (Local op) (unconnected_effects (Local op) u row)) outs
  used_after config' config'' mid new row outs done is kept = record {
    does = record { state = later row ∙ ap used done.does.state ∙ sym is; out = same_out row ∙ done.does.out };
    same_config = kept ∙ done.same_config;
  }
