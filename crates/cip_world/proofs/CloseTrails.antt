-- A Close that is taken has no trail: it used its op up.
use Rattle.std.proofs.Common.{◌≡◌, ℕ, true, false, List, [], ◌∷◌, Some, refl, sym, ap, ◌∙◌, inl, inr}
use Rattle.std.specs.List.{list_any}
use Rattle.cip_base.specs.declared.numbers.ModuleId.{ModuleId}
use Rattle.cip_base.specs.declared.timing.Timing.{Timing}
use Rattle.cip_event.specs.declared.event.Command.{Command}
use Rattle.cip_event.specs.declared.event.Command.TheVariants as commands
use Rattle.cip_event.specs.declared.event.Event.TheVariants as events
use Rattle.cip_event.specs.declared.event.Output.{Output}
use Rattle.cip_event.specs.declared.event.Output.TheVariants as outputs
use Rattle.cip_chassis.specs.Plan.{Plan}
use Rattle.cip_world.specs.declared.journal.Entry.TheVariants.{Step}
use Rattle.cip_world.specs.declared.journal.Input.TheVariants as inputs
use Rattle.cip_world.specs.Entering.{IsTaken}
use Rattle.cip_world.specs.Journals.{Journal, entry_at}
use Rattle.cip_world.specs.Runs.{IsRun}
use Rattle.cip_world.specs.Trails.{is_refusal, opens_or_sends, trail_of}
use Rattle.cip_world.proofs.DonesTell.{same_event}
use Rattle.cip_world.proofs.Moments.{AtEntry, at_number, run_older}
use Rattle.cip_world.proofs.OpsOnce.{CommandIn, one_command}
use Rattle.cip_world.proofs.TrailSteps.{trail_none}

unrefused : (outs : List Output) → IsTaken outs → list_any is_refusal outs ≡ false
unrefused [] taken = refl
unrefused (outputs.Refused fault ∷ outs) taken = absurd (taken fault (inl refl))
unrefused (outputs.Send port to body ∷ outs) taken = unrefused outs (λ fault has. taken fault (inr has))
unrefused (outputs.Done op reply ∷ outs) taken = unrefused outs (λ fault has. taken fault (inr has))
unrefused (outputs.Consumed triad instance bytes ∷ outs) taken = unrefused outs (λ fault has. taken fault (inr has))
unrefused (outputs.Arrived op bytes ∷ outs) taken = unrefused outs (λ fault has. taken fault (inr has))
unrefused (outputs.Expired triad ∷ outs) taken = unrefused outs (λ fault has. taken fault (inr has))
unrefused (outputs.Ended op ∷ outs) taken = unrefused outs (λ fault has. taken fault (inr has))
unrefused (outputs.Dropped reason ∷ outs) taken = unrefused outs (λ fault has. taken fault (inr has))

-- no Open and no Send
no_other : (op o of : ℕ) (timing : Timing) (c : Command) → commands.Close o of timing ≡ c → opens_or_sends op c ≡ true → ⊥
no_other op o of timing c is asks = let none : opens_or_sends op (commands.Close o of timing) ≡ true = ap (opens_or_sends op) is ∙ asks in cc

-- the Close of an op that is taken is the command of that op
abbrev closed_in : (t : Plan) (j : Journal) (k op of : ℕ) (at : ModuleId) (timing : Timing) (outs : List Output) → IsRun t j
    → AtEntry j k (Step at (inputs.Command (commands.Close op of timing)) outs) → IsTaken outs → CommandIn t j at.0 op k
closed_in t j k op of at timing outs run x taken =
    let next = (run_older t (Step at (inputs.Command (commands.Close op of timing)) outs ∷ x.before) j x.older run).1 in
    record {
      step = record {
        at = at;
        input = inputs.Command (commands.Close op of timing);
        outputs = outs;
        before = x.before;
        is = x.older;
        number = x.number;
        taken = next;
      };
      here = refl;
      command = commands.Close op of timing;
      event_is = next.given;
      asks = refl;
      unrefused = unrefused outs taken;
    }

pub close_trail : (t : Plan) (j : Journal) (k op of : ℕ) (at : ModuleId) (timing : Timing) (outs : List Output) → IsRun t j
    → entry_at j k ≡ Some (Step at (inputs.Command (commands.Close op of timing)) outs) → IsTaken outs → trail_of j at.0 op ≡ []
close_trail t j k op of at timing outs run there taken =
    let c = closed_in t j k op of at timing outs run
    (at_number j k (Step at (inputs.Command (commands.Close op of timing)) outs) there) taken in
    trail_none t j at.0 op run
    (λ l d asks.
    let same : events.Command (commands.Close op of timing) ≡ events.Command d.command =
    sym c.event_is ∙ same_event t j k l (one_command t j at.0 op k l run c d) c.step d.step ∙ d.event_is in
    no_other op op of timing d.command (cc) asks)
