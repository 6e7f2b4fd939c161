-- The steps of a script, or its first faulty line. Faults of a line: not text, its first word, the
-- number of its words, and then its words from the left.
use Rattle.std.specs.Prelude.{◌≡◌, ◌||◌, Bool, ℕ, ◌+◌, ◌^◌, List, [], ◌∷◌, map, length, codes}
use Rattle.std.specs.Prelude.{nat_lt, ◌==◌, slice_index, slice_index_or, if◌then◌else◌, Option}
use Rattle.std.specs.Prelude.{Some, None, Result, Ok, Err}
use Rattle.std.specs.Str.{bytes_eq}
use Rattle.std.specs.Str.Lines.{lines}
use Rattle.std.specs.List.{list_all, position, slice_split}
use denote.Ref.{Bor}
use Rattle.cip_base.specs.declared.numbers.ModuleId.{ModuleId}
use Rattle.cip_base.specs.declared.timing.Timing.{Timing}
use Rattle.cip_event.specs.declared.event.Command.TheVariants as commands
use Rattle.cip_event.specs.declared.event.OpenParams.{OpenParams}
use Rattle.cip_event.specs.declared.event.LargeParams.{LargeParams}
use Rattle.cip_event.specs.declared.frame.FrameName.{FrameName}
use Rattle.cip_segment.specs.declared.segment.Segment.{Segment}
use Rattle.cip_segment.specs.declared.fault.PathFault.{PathFault}
use Rattle.cip_segment.specs.Reading.{path_at}
use Rattle.cip_script.specs.declared.steps.Step.{Step}
use Rattle.cip_script.specs.declared.steps.Step.TheVariants.{Feed, Tick, Deliver, Lose, Run, Tables}
use Rattle.cip_script.specs.declared.steps.Step.TheVariants.{Trail, Chain}
use Rattle.cip_script.specs.declared.steps.Mode.{Mode}
use Rattle.cip_script.specs.declared.steps.Mode.TheVariants.{InTurn, OnThreads}
use Rattle.cip_script.specs.declared.steps.Numbered.{Numbered}
use Rattle.cip_script.specs.declared.steps.ScriptFault.{ScriptFault}
use Rattle.cip_script.specs.declared.steps.ScriptFault.TheVariants.{UnknownWord, Count, BadNumber}
use Rattle.cip_script.specs.declared.steps.ScriptFault.TheVariants.{BadBytes, BadPath, NoModule}
use Rattle.cip_script.specs.declared.steps.ScriptFault.TheVariants.{NotWithThreads, NotText}
use Rattle.cip_script.specs.declared.steps.StepFault.{StepFault}
use Rattle.cip_script.specs.declared.steps.StepFault.TheVariants as step_fault
use Rattle.cip_script.specs.declared.steps.StepsFault.{StepsFault}
use Rattle.cip_script.specs.declared.steps.StepsFault.TheVariants as steps_fault
use Rattle.cip_script.specs.Text.{words_of, bytes_of, is_dot}
use Rattle.cip_tool.specs.Numbers.{number_of, below}

-- what references lead to
abbrev pub texts : List (Bor (List ℕ)) → List (List ℕ)
texts = map (λ part. part.now)

infixl 10 ◌>>=◌
abbrev pub ◌>>=◌ : {A B : Type 0} → Result A ScriptFault → (A → Result B ScriptFault)
    → Result B ScriptFault
(Ok x) >>= f = f x
(Err e) >>= f = Err e

abbrev pub or_fault : {A : Type 0} → ScriptFault → Option A → Result A ScriptFault
or_fault fault (Some x) = Ok x
or_fault fault None = Err fault

abbrev pub as_module : Option ℕ → Result ModuleId ScriptFault
as_module None = Err NoModule
as_module (Some place) = Ok (record { 0 = place })

-- the module of a name
abbrev pub module_of : List (List ℕ) → List ℕ → Result ModuleId ScriptFault
module_of names word = as_module (position (λ name. bytes_eq name word) names)

-- a number below a bound
abbrev pub bounded : ℕ → List ℕ → Result ℕ ScriptFault
bounded bound word = or_fault BadNumber (below bound (number_of word))

abbrev pub bytes_at : List ℕ → Result (List ℕ) ScriptFault
bytes_at word = or_fault BadBytes (bytes_of word)

abbrev pub if_path : Result (List Segment) PathFault → List ℕ → Result (List ℕ) ScriptFault
if_path (Ok segments) bytes = Ok bytes
if_path (Err fault) bytes = Err BadPath

-- the bytes of a path
abbrev pub path_of : List ℕ → Result (List ℕ) ScriptFault
path_of word = bytes_at word >>= λ bytes. if_path (path_at bytes) bytes

-- TICK TICKS
abbrev pub timing_of : List ℕ → List ℕ → Result Timing ScriptFault
timing_of tick ticks = do
  t ← bounded (2 ^ 8) tick
  n ← bounded (2 ^ 8) ticks
  Ok (record { tick = t; ticks = n })

abbrev pub if_time : ℕ → Result ℕ ScriptFault
if_time n = if n == 0 then Err BadNumber else Ok n

-- milliseconds, at least one
abbrev pub ms_of : List ℕ → Result ℕ ScriptFault
ms_of word = bounded (2 ^ 16) word >>= if_time

abbrev pub name_of : List ℕ → List ℕ → Result FrameName ScriptFault
name_of e k = do
  entry ← bounded (2 ^ 64) e
  output ← bounded (2 ^ 64) k
  Ok (record { entry = entry; output = output })

abbrev pub frame_by : List (List ℕ) → Result FrameName ScriptFault
frame_by (e ∷ k ∷ []) = name_of e k
frame_by parts = Err BadNumber

-- `E.K`: output K of entry E
abbrev pub frame_of : List ℕ → Result FrameName ScriptFault
frame_of word = frame_by (slice_split is_dot word)

-- the k-th word behind the first
abbrev pub nth : List (List ℕ) → ℕ → List ℕ
nth args k = slice_index_or args k []

-- what so many words behind the first make
abbrev pub of_words : ℕ → List (List ℕ) → Result Step ScriptFault → Result Step ScriptFault
of_words count args step = if length args == count then step else Err Count

-- `send M OP TICK TICKS PATH REQUEST`
abbrev pub send_words : List (List ℕ) → List (List ℕ) → Result Step ScriptFault
send_words names args = do
  m ← module_of names (nth args 0)
  op ← bounded (2 ^ 32) (nth args 1)
  timing ← timing_of (nth args 2) (nth args 3)
  path ← path_of (nth args 4)
  asked ← bytes_at (nth args 5)
  Ok (Feed m (commands.Send op timing path asked))

-- `SERIAL MULT TRANSPORT OT_RPI OT_PARAMS TO_RPI TO_PARAMS`, from the sixth word on
abbrev pub params_of : List (List ℕ) → Result OpenParams ScriptFault
params_of args = do
  serial ← bounded (2 ^ 16) (nth args 5)
  multiplier ← bounded (2 ^ 8) (nth args 6)
  transport ← bounded (2 ^ 8) (nth args 7)
  ot_rpi ← bounded (2 ^ 32) (nth args 8)
  ot_params ← bounded (2 ^ 16) (nth args 9)
  to_rpi ← bounded (2 ^ 32) (nth args 10)
  to_params ← bounded (2 ^ 16) (nth args 11)
  Ok (record {
    serial = serial;
    multiplier = multiplier;
    transport = transport;
    ot_rpi = ot_rpi;
    ot_params = ot_params;
    to_rpi = to_rpi;
    to_params = to_params;
  })

-- `open M OP TICK TICKS PATH SERIAL MULT TRANSPORT OT_RPI OT_PARAMS TO_RPI TO_PARAMS`
abbrev pub open_words : List (List ℕ) → List (List ℕ) → Result Step ScriptFault
open_words names args = do
  m ← module_of names (nth args 0)
  op ← bounded (2 ^ 32) (nth args 1)
  timing ← timing_of (nth args 2) (nth args 3)
  path ← path_of (nth args 4)
  params ← params_of args
  Ok (Feed m (commands.Open op timing path params))

-- the same, with network connection parameters of 32 bits
abbrev pub large_params_of : List (List ℕ) → Result LargeParams ScriptFault
large_params_of args = do
  serial ← bounded (2 ^ 16) (nth args 5)
  multiplier ← bounded (2 ^ 8) (nth args 6)
  transport ← bounded (2 ^ 8) (nth args 7)
  ot_rpi ← bounded (2 ^ 32) (nth args 8)
  ot_params ← bounded (2 ^ 32) (nth args 9)
  to_rpi ← bounded (2 ^ 32) (nth args 10)
  to_params ← bounded (2 ^ 32) (nth args 11)
  Ok (record {
    serial = serial;
    multiplier = multiplier;
    transport = transport;
    ot_rpi = ot_rpi;
    ot_params = ot_params;
    to_rpi = to_rpi;
    to_params = to_params;
  })

-- `large M OP TICK TICKS PATH SERIAL MULT TRANSPORT OT_RPI OT_PARAMS TO_RPI TO_PARAMS`
abbrev pub large_words : List (List ℕ) → List (List ℕ) → Result Step ScriptFault
large_words names args = do
  m ← module_of names (nth args 0)
  op ← bounded (2 ^ 32) (nth args 1)
  timing ← timing_of (nth args 2) (nth args 3)
  path ← path_of (nth args 4)
  params ← large_params_of args
  Ok (Feed m (commands.LargeOpen op timing path params))

-- `close M OP OF TICK TICKS`
abbrev pub close_words : List (List ℕ) → List (List ℕ) → Result Step ScriptFault
close_words names args = do
  m ← module_of names (nth args 0)
  op ← bounded (2 ^ 32) (nth args 1)
  of_ ← bounded (2 ^ 32) (nth args 2)
  timing ← timing_of (nth args 3) (nth args 4)
  Ok (Feed m (commands.Close op of_ timing))

-- `enter M OF BYTES`
abbrev pub enter_words : List (List ℕ) → List (List ℕ) → Result Step ScriptFault
enter_words names args = do
  m ← module_of names (nth args 0)
  of_ ← bounded (2 ^ 32) (nth args 1)
  bytes ← bytes_at (nth args 2)
  Ok (Feed m (commands.Enter of_ bytes))

-- `set M INSTANCE BYTES`
abbrev pub set_words : List (List ℕ) → List (List ℕ) → Result Step ScriptFault
set_words names args = do
  m ← module_of names (nth args 0)
  instance ← bounded (2 ^ 32) (nth args 1)
  bytes ← bytes_at (nth args 2)
  Ok (Feed m (commands.Set instance bytes))

-- `produce M INSTANCE`
abbrev pub produce_words : List (List ℕ) → List (List ℕ) → Result Step ScriptFault
produce_words names args = do
  m ← module_of names (nth args 0)
  instance ← bounded (2 ^ 32) (nth args 1)
  Ok (Feed m (commands.Produce instance))

-- `tick M MS`
abbrev pub tick_words : List (List ℕ) → List (List ℕ) → Result Step ScriptFault
tick_words names args = do
  m ← module_of names (nth args 0)
  by ← ms_of (nth args 1)
  Ok (Tick m by)

-- `deliver E.K` and `lose E.K`
abbrev pub deliver_words : List (List ℕ) → Result Step ScriptFault
deliver_words args = frame_of (nth args 0) >>= λ frame. Ok (Deliver frame)

abbrev pub lose_words : List (List ℕ) → Result Step ScriptFault
lose_words args = frame_of (nth args 0) >>= λ frame. Ok (Lose frame)

-- `run N`
abbrev pub run_words : List (List ℕ) → Result Step ScriptFault
run_words args = bounded (2 ^ 64) (nth args 0) >>= λ limit. Ok (Run limit)

-- `tables M`
abbrev pub tables_words : List (List ℕ) → List (List ℕ) → Result Step ScriptFault
tables_words names args = module_of names (nth args 0) >>= λ m. Ok (Tables m)

-- `trail M OP`
abbrev pub trail_words : List (List ℕ) → List (List ℕ) → Result Step ScriptFault
trail_words names args = do
  m ← module_of names (nth args 0)
  op ← bounded (2 ^ 32) (nth args 1)
  Ok (Trail m op)

-- `chain M OP`
abbrev pub chain_words : List (List ℕ) → List (List ℕ) → Result Step ScriptFault
chain_words names args = do
  m ← module_of names (nth args 0)
  op ← bounded (2 ^ 32) (nth args 1)
  Ok (Chain m op)

-- the words that give a module nothing
abbrev pub world_step : List (List ℕ) → List ℕ → List (List ℕ) → Result Step ScriptFault
world_step names word args =
    if bytes_eq word (codes "deliver") then of_words 1 args (deliver_words args)
    else if bytes_eq word (codes "lose") then of_words 1 args (lose_words args)
    else if bytes_eq word (codes "run") then of_words 1 args (run_words args)
    else if bytes_eq word (codes "tables") then of_words 1 args (tables_words names args)
    else if bytes_eq word (codes "trail") then of_words 2 args (trail_words names args)
    else if bytes_eq word (codes "chain") then of_words 2 args (chain_words names args)
    else Err UnknownWord

abbrev pub is_world_word : List ℕ → Bool
is_world_word word = bytes_eq word (codes "deliver") || (bytes_eq word (codes "lose")
    || (bytes_eq word (codes "run") || (bytes_eq word (codes "tables")
    || (bytes_eq word (codes "trail") || bytes_eq word (codes "chain")))))

-- where modules run on threads of their own, no other words are taken
abbrev pub not_with_threads : List ℕ → Result Step ScriptFault
not_with_threads word = if is_world_word word then Err NotWithThreads else Err UnknownWord

abbrev pub last_step : Mode → List (List ℕ) → List ℕ → List (List ℕ) → Result Step ScriptFault
last_step InTurn names word args = world_step names word args
last_step OnThreads names word args = not_with_threads word

-- the first word says what the others are
abbrev pub step_by : Mode → List (List ℕ) → List ℕ → List (List ℕ) → Result Step ScriptFault
step_by mode names word args =
    if bytes_eq word (codes "send") then of_words 6 args (send_words names args)
    else if bytes_eq word (codes "open") then of_words 12 args (open_words names args)
    else if bytes_eq word (codes "large") then of_words 12 args (large_words names args)
    else if bytes_eq word (codes "close") then of_words 5 args (close_words names args)
    else if bytes_eq word (codes "enter") then of_words 3 args (enter_words names args)
    else if bytes_eq word (codes "set") then of_words 3 args (set_words names args)
    else if bytes_eq word (codes "produce") then of_words 2 args (produce_words names args)
    else if bytes_eq word (codes "tick") then of_words 2 args (tick_words names args)
    else last_step mode names word args

abbrev pub some_step : Result Step ScriptFault → Result (Option Step) ScriptFault
some_step (Ok step) = Ok (Some step)
some_step (Err fault) = Err fault

abbrev pub words_step : Mode → List (List ℕ) → List (List ℕ) → Result (Option Step) ScriptFault
words_step mode names [] = Ok None
words_step mode names (word ∷ args) = some_step (step_by mode names word args)

-- a comment and a line without words do nothing
unfoldable pub line_step : Mode → List (List ℕ) → List ℕ → Result (Option Step) ScriptFault
line_step mode names line =
    if list_all (λ b. nat_lt b 128) line then
    (if slice_index line 0 == 35 then Ok None else words_step mode names (words_of line))
    else Err NotText

abbrev pub with_step : ℕ → Result (Option Step) ScriptFault
    → Result (List Numbered) (ℕ × ScriptFault) → Result (List Numbered) (ℕ × ScriptFault)
with_step n (Err fault) rest = Err (n, fault)
with_step n (Ok None) rest = rest
with_step n (Ok (Some step)) (Ok more) = Ok (record { line = n; step = step } ∷ more)
with_step n (Ok (Some step)) (Err fault) = Err fault

-- the lines from line n on
abbrev pub steps_from : Mode → List (List ℕ) → ℕ → List (List ℕ)
    → Result (List Numbered) (ℕ × ScriptFault)
steps_from mode names n [] = Ok []
steps_from mode names n (line ∷ more) = with_step n (line_step mode names line)
    (steps_from mode names (n + 1) more)

-- the steps of a script with their lines, or the first faulty line with its fault
abbrev pub steps : Mode → List (List ℕ) → List ℕ → Result (List Numbered) (ℕ × ScriptFault)
steps mode names script = steps_from mode names 1 (lines script)

-- what a function returned is this, unless memory ran out
abbrev pub Fails : {Y : Type 0} → StepFault → Result Y ScriptFault → Type 0
Fails step_fault.NoMemory read = Unit {0}
Fails (step_fault.Fault fault) read = read ≡ Err fault

abbrev pub Gives : {Y : Type 0} → Result Y StepFault → Result Y ScriptFault → Type 0
Gives (Ok found) read = read ≡ Ok found
Gives (Err e) read = Fails e read

abbrev pub StepsFail : {Y : Type 0} → StepsFault → Result Y (ℕ × ScriptFault) → Type 0
StepsFail steps_fault.NoMemory read = Unit {0}
StepsFail (steps_fault.Script line fault) read = read ≡ Err (line, fault)

abbrev pub Reads : {V : Type 0} → (V → List Numbered) → Result V StepsFault
    → Result (List Numbered) (ℕ × ScriptFault) → Type 0
Reads view (Ok v) read = read ≡ Ok (view v)
Reads view (Err e) read = StepsFail e read
