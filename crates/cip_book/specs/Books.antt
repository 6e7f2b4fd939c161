-- What is known of a run.
use Rattle.std.specs.Prelude.{◌≡◌, ℕ, ◌==◌, Bool, false, if◌then◌else◌, List, [], ◌∷◌, Option, Some, None, option_map}
use Rattle.cip_message.specs.Numbers.{word_in}
use Rattle.cip_base.specs.declared.numbers.ModuleId.{ModuleId}
use Rattle.cip_decode.specs.declared.attributes.Attributes.{Attributes}
use Rattle.cip_event.specs.declared.event.Body.{Body}
use Rattle.cip_event.specs.declared.event.Body.TheVariants.{Request, Reply, Data}
use Rattle.cip_read.specs.declared.line.Given.{Given}
use Rattle.cip_read.specs.declared.line.Given.TheVariants.{Command, Tick, Frame}
use Rattle.cip_chassis.specs.Plan.{Plan}
use Rattle.cip_chassis.specs.Nodes.{node}
use Rattle.cip_book.specs.declared.book.Sent.{Sent}
use Rattle.cip_book.specs.declared.book.Step.{Step}
use Rattle.cip_book.specs.declared.label.Kind.{Kind}
use Rattle.cip_book.specs.declared.label.Kind.TheVariants as kinds
use Rattle.cip_book.specs.Labels.{label_of, is_failure}

-- the module of the step under way
abbrev pub at_of : Option Step → Option ModuleId
at_of None = None
at_of (Some step) = Some step.at

-- the frame that it was given
abbrev pub arrived_of : Option Step → Option Sent
arrived_of None = None
arrived_of (Some step) = step.arrived

abbrev pub maker_by : ModuleId → Sent → Kind → Option ModuleId
maker_by at sent kinds.Reply = sent.made_at
maker_by at sent kind = Some at

abbrev pub maker_of : ModuleId → Given → Option Sent → Option ModuleId
maker_of at given (Some sent) = maker_by at sent sent.label.kind
maker_of at (Frame name) None = None
maker_of at given None = Some at

-- the module that made a failure: that of the reply that was given, or else the step's own
abbrev pub made_at : Option Step → Option ModuleId
made_at None = None
made_at (Some step) = maker_of step.at step.given step.arrived

-- the attributes that were asked for by the request which a reply under this number answers: the
-- request that was given under it, or that of the reply that was given
abbrev pub answered_as : ℕ → Sent → Kind → Option Attributes
answered_as number sent kinds.Reply = sent.asked
answered_as number sent kinds.Request =
    if sent.label.number == number then sent.asked else None
answered_as number sent kinds.Data = None

abbrev pub answered_under : ℕ → Option Sent → Option Attributes
answered_under number None = None
answered_under number (Some sent) = answered_as number sent sent.label.kind

abbrev pub if_reply : Sent → Kind → Option Attributes
if_reply sent kinds.Reply = sent.asked
if_reply sent kind = None

-- those of the reply that was given
abbrev pub answered : Option Sent → Option Attributes
answered None = None
answered (Some sent) = if_reply sent sent.label.kind

-- the attributes that a frame asks for or has, where a frame was given
abbrev pub AsksBy : Option Sent → Body → Option Attributes → Type 0
AsksBy given (Request number bytes) asked = Unit {0}
AsksBy given (Reply number bytes) asked = asked ≡ answered_under number given
AsksBy given (Data id bytes) asked = asked ≡ None

-- what is known of a frame that goes out of the step under way: its sender, the module at the
-- address, what it is in short, and of a failure who made it
abbrev pub IsSent : Plan → Step → ℕ → List ℕ → Body → Sent → Type 0
IsSent t step port to body sent =
    (sent.from ≡ step.at)
    × (option_map (λ m. m.0) sent.to ≡ node t step.at.0 port to)
    × (sent.label ≡ label_of body)
    × (sent.made_at ≡ (if is_failure (label_of body) then made_at (Some step) else None))
    × AsksBy step.arrived body sent.asked

-- nothing is known where no step is
abbrev pub Knows : Plan → Option Step → ℕ → List ℕ → Body → Option Sent → Type 0
Knows t None port to body found = found ≡ None
Knows t (Some step) port to body None = ⊥
Knows t (Some step) port to body (Some sent) = IsSent t step port to body sent

-- the sequence count in front of a datum, where its connection has the transport class 1 (Volume 1,
-- chapter 3, transport classes)
abbrev pub counted_of : ℕ → List ℕ → Option ℕ
counted_of class (low ∷ high ∷ rest) =
    if class == 1 then Some (word_in (low ∷ high ∷ rest) 0) else None
counted_of class bytes = None

abbrev pub count_of : Option ℕ → List ℕ → Option ℕ
count_of None bytes = None
count_of (Some class) bytes = counted_of class bytes

-- the count is that of the last datum
abbrev pub is_repeated : Option ℕ → Option ℕ → Bool
is_repeated (Some last) (Some count) = last == count
is_repeated last count = false
