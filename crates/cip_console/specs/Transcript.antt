-- The transcript of a script: the text of the run that its steps make.
use Rattle.std.specs.Prelude.{ℕ, zero, suc, ◌-◌, ◌&&◌, Bool, true, false, not, Option, Some, None}
use Rattle.std.specs.Prelude.{Result, Ok, Err, List, [], ◌∷◌, ◌++◌, length, codes, map, filter_map}
use Rattle.std.specs.Prelude.{slice_get}
use Rattle.std.specs.FinMap as finite
use Rattle.cip_hops.specs.Hops.{as_hop}
use Rattle.cip_base.specs.declared.numbers.ModuleId.{ModuleId}
use Rattle.cip_event.specs.declared.event.Command.{Command}
use Rattle.cip_config.specs.declared.config.ModuleSettings.{ModuleSettings}
use Rattle.cip_routing.specs.declared.tables.Tables.{Tables}
use Rattle.cip_routing.specs.State.{State}
use Rattle.cip_routing.specs.Views.{row_of, hop_row_of, assemblies_of}
use Rattle.cip_chassis.specs.Plan.{Plan}
use Rattle.cip_event.specs.declared.frame.FrameName.{FrameName}
use Rattle.cip_world.specs.declared.journal.Entry.TheVariants.{Lost}
use Rattle.cip_world.specs.declared.journal.Input.{Input}
use Rattle.cip_world.specs.declared.journal.Input.TheVariants as inputs
use Rattle.cip_world.specs.Journals.{Journal, frame_at, is_named}
use Rattle.cip_world.specs.Nexts.{next, delivered}
use Rattle.cip_world.specs.Runs.{state_in}
use Rattle.cip_world.specs.Trails.{trail_of}
use Rattle.cip_world.specs.Waiting.{arrives, waiting}
use Rattle.cip_script.specs.declared.steps.Step.{Step}
use Rattle.cip_script.specs.declared.steps.Step.TheVariants as steps
use Rattle.cip_script.specs.declared.steps.Numbered.{Numbered}
use Rattle.cip_script.specs.declared.steps.ScriptFault.{ScriptFault}
use Rattle.cip_script.specs.declared.steps.ScriptFault.TheVariants.{NoFrame, ClockFull}
use Rattle.cip_transcript.specs.Chained.{chain_of}
use Rattle.cip_transcript.specs.Show.{chain_text, entry_text, name_of, names_of, trail_text}
use Rattle.cip_transcript.specs.TablesText.{tables_text}

-- what a part of a run prints, and the journal after it, or why the run stops there
pub record Part : Type 0 where
  pub text : List ℕ
  pub after : Result Journal ScriptFault

abbrev pub printed : List ℕ → Part → Part
printed text part = record { text = text ++ part.text; after = part.after }

abbrev pub continued : List ℕ → Result Journal ScriptFault → (Journal → Part) → Part
continued text (Err fault) rest = record { text = text; after = Err fault }
continued text (Ok j) rest = printed text (rest j)

-- a part, and from where it ends the rest
abbrev pub then_ : Part → (Journal → Part) → Part
then_ part rest = continued part.text part.after rest

-- the text of the newest entry
abbrev pub newest : List (List ℕ) → Journal → List ℕ
newest names [] = []
newest names (entry ∷ j) = entry_text names (length j) entry

-- a journal with one more entry, which is printed; there is none only where a clock is full
abbrev pub shown : List (List ℕ) → Option Journal → Part
shown names None = record { text = []; after = Err ClockFull }
shown names (Some j) = record { text = newest names j; after = Ok j }

-- the arrival of the first that waits, and then the rest; nothing where none waits
abbrev pub first_delivered : Plan → Journal → List FrameName → (Journal → Part) → Part
first_delivered t j [] rest = record { text = []; after = Ok j }
first_delivered t j (first ∷ others) rest = then_ (shown (names_of t) (delivered t j first)) rest

-- the waiting frame of least name is delivered, up to n times
unfoldable pub deliveries : Plan → ℕ → Journal → Part
deliveries t zero j = record { text = []; after = Ok j }
deliveries t (suc n) j = first_delivered t j (waiting t j) (deliveries t n)

-- whether a frame is left that waits
abbrev pub end_text : List FrameName → List ℕ
end_text [] = codes "quiet\n"
end_text (first ∷ others) = codes "limit\n"

abbrev pub ended : Plan → Journal → Part
ended t j = record { text = end_text (waiting t j); after = Ok j }

-- a command or a tick to module m
abbrev pub given : Plan → Journal → ModuleId → Input → Part
given t j m input = shown (names_of t) (next t j m input)

-- the frame was sent to a module, and no entry names it as arrived or lost
abbrev pub waits : Plan → Journal → FrameName → Bool
waits t j f = arrives t (frame_at j f) && not (is_named j f)

abbrev pub if_waits : Bool → Part → Part
if_waits true part = part
if_waits false part = record { text = []; after = Err NoFrame }

-- `deliver E.K`
abbrev pub brought : Plan → Journal → FrameName → Part
brought t j f = if_waits (waits t j f) (shown (names_of t) (delivered t j f))

-- `lose E.K`
abbrev pub lost : Plan → Journal → FrameName → Part
lost t j f = if_waits (waits t j f) (shown (names_of t) (Some (Lost f ∷ j)))

-- `run N`: up to so many deliveries, and whether a frame is left that waits
abbrev pub ran : Plan → ℕ → Journal → Part
ran t limit j = then_ (deliveries t limit j) (ended t)

-- a state as it is shown
abbrev pub tables_of : State → Tables
tables_of s = record {
  now = s.now;
  last_id = s.hops.next - 1;
  last_number = s.pendings.next - 1;
  pendings = map row_of (finite.entries s.pendings.entries);
  hops = map hop_row_of (filter_map (λ e. as_hop e.1) (finite.entries s.hops.held));
  assemblies = assemblies_of s;
  ops = s.ops;
}

abbrev pub tables_in : Plan → Journal → ModuleId → Option ModuleSettings → List ℕ
tables_in t j m None = []
tables_in t j m (Some config) =
    tables_text (name_of (names_of t) m.0) (tables_of (state_in config m.0 j))

-- `tables M`
abbrev pub tabled : Plan → Journal → ModuleId → Part
tabled t j m = record { text = tables_in t j m (slice_get t.modules m.0); after = Ok j }

-- `trail M OP`
abbrev pub trailed : Journal → ModuleId → ℕ → Part
trailed j m op = record { text = trail_text (trail_of j m.0 op); after = Ok j }

-- `chain M OP`
abbrev pub chained : Plan → Journal → ModuleId → ℕ → Part
chained t j m op = record { text = chain_text (names_of t) (chain_of t j m.0 op); after = Ok j }

-- one step of a script
abbrev pub played : Plan → Journal → Step → Part
played t j (steps.Feed m command) = given t j m (inputs.Command command)
played t j (steps.Tick m by) = given t j m (inputs.Tick by)
played t j (steps.Deliver frame) = brought t j frame
played t j (steps.Lose frame) = lost t j frame
played t j (steps.Run limit) = ran t limit j
played t j (steps.Tables m) = tabled t j m
played t j (steps.Trail m op) = trailed j m op
played t j (steps.Chain m op) = chained t j m op

abbrev pub played_all : Plan → Journal → List Numbered → Part
played_all t j [] = record { text = []; after = Ok j }
played_all t j (numbered ∷ more) = then_ (played t j numbered.step) (λ k. played_all t k more)

-- what these steps print, from the beginning on
abbrev pub transcript : Plan → List Numbered → List ℕ
transcript t steps = (played_all t [] steps).text

abbrev pub stop_after : ℕ → Result Journal ScriptFault → (Journal → Option (ℕ × ScriptFault))
    → Option (ℕ × ScriptFault)
stop_after line (Err fault) rest = Some (line, fault)
stop_after line (Ok j) rest = rest j

abbrev pub stop_from : Plan → Journal → List Numbered → Option (ℕ × ScriptFault)
stop_from t j [] = None
stop_from t j (numbered ∷ more) =
    stop_after numbered.line (played t j numbered.step).after (λ k. stop_from t k more)

-- the line at which these steps stop, and why: no such frame waits, or a clock is full
abbrev pub stop_of : Plan → List Numbered → Option (ℕ × ScriptFault)
stop_of t steps = stop_from t [] steps
