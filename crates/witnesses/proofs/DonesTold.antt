-- What the Dones of concrete runs tell of their trails.
use Rattle.std.proofs.Common.{◌≡◌, ℕ, Bool, true, false, List, [], ◌∷◌, Ok, Some, refl, sym, subst, ap, ◌∙◌, inl, inr, arith, Result}
use Rattle.std.specs.List.{list_any}
use Rattle.cip_base.proofs.MapCases.{some_same}
use Rattle.cip_base.specs.declared.numbers.ModuleId.{ModuleId}
use Rattle.cip_base.specs.declared.timing.Timing.{Timing}
use Rattle.cip_message.specs.Counted.{counted_at, counted_path_at}
use Rattle.cip_message.specs.Failure.{failure_at}
use Rattle.cip_message.specs.Reply.{Reply}
use Rattle.cip_message.specs.ReplyAt.{reply_at}
use Rattle.cip_message.specs.RequestAt.{request_at}
use Rattle.cip_message.specs.declared.failure.ConnectionFailure.{ConnectionFailure}
use Rattle.cip_message.specs.declared.fault.DataFault.{DataFault}
use Rattle.cip_message.proofs.ReadAgain.{ok_reply}
use Rattle.cip_event.specs.declared.event.Command.{Command as Asked}
use Rattle.cip_event.specs.declared.event.Command.TheVariants as commands
use Rattle.cip_event.specs.declared.event.LargeParams.{LargeParams}
use Rattle.cip_event.specs.declared.event.OpenParams.{OpenParams}
use Rattle.cip_event.specs.Params.{widened}
use Rattle.cip_event.specs.declared.event.Output.{Output}
use Rattle.cip_event.specs.declared.event.Output.TheVariants as outputs
use Rattle.cip_laws.specs.Turns.{Gave}
use Rattle.cip_open.specs.Open.{Open}
use Rattle.cip_open.specs.OpenAt.{open_at}
use Rattle.cip_segment.specs.Reading.{segments_within, path_at, segments_of, behind, hop_of}
use Rattle.cip_segment.specs.Scan.{bytes_at, padded_at, narrow_at, double_at, point_at, words_at as path_words_at, number_at, size_at, plain_port_at, port_at}
use Rattle.cip_segment.specs.Scan.{other_at, logical_at, segment_at}
use Rattle.cip_routing.specs.Table.{asked_open, open_of}
use Rattle.cip_target.specs.declared.identity.IdentityFields.{IdentityFields}
use Rattle.cip_chassis.specs.Plan.{Plan, IsTopology}
use Rattle.cip_chassis.specs.Walk.{Stop, walk, walk_within}
use Rattle.cip_world.specs.declared.journal.Entry.TheVariants.{Step}
use Rattle.cip_world.specs.declared.journal.Input.TheVariants.{Command}
use Rattle.cip_world.specs.Journals.{Journal, entry_at, part}
use Rattle.cip_world.specs.Runs.{IsRun}
use Rattle.cip_world.specs.Trails.{is_refusal, trail_of}
use Rattle.cip_world.specs.TrailTells.{words_at, IsLast, IsOn, OpenedIn, OpenDone, TellsWhere, EndsThere, SentIn, AnsweredThere}
use Rattle.cip_world.proofs.Chassis.{chassis}
use Rattle.cip_world.proofs.DonesTell.{tells}
use Rattle.cip_world.proofs.Moments.{at_number, run_older}
use Rattle.cip_world.proofs.TrailGrows.{tip}
use Rattle.cip_world.proofs.TrailSteps.{tip_end}
use Rattle.witnesses.specs.Plans.{plant, row, triad, params}
use Rattle.witnesses.specs.StoredRun as stored
use Rattle.witnesses.specs.FailedOpen as failed
use Rattle.witnesses.specs.TimedOutOpen as timed_out
use Rattle.witnesses.specs.ChainedRun as chained
use Rattle.witnesses.specs.LargeRun as larger
use Rattle.witnesses.specs.Told.{FailsAt, SucceedsAt, AnsweredAt}
use Rattle.witnesses.proofs.StoredRun.{stored_run}
use Rattle.witnesses.proofs.FailedOpen.{failed_open}
use Rattle.witnesses.proofs.TimedOutOpen.{timed_out_open}
use Rattle.witnesses.proofs.ChainedRun.{chained_run}
use Rattle.witnesses.proofs.LargeRun.{large_run}
use Rattle.witnesses.proofs.Topologies.{plant_is, row_is}

-- ---- the command of an entry

-- it is of an open, large or not
record OpenedAs (t : Plan) (j : Journal) (m op k : ℕ) (path : List ℕ) (large : Bool) : Type 0 where
  opened : OpenedIn t j m op k path
  large_is : opened.request.fields.large ≡ large

-- a command that spells this open along the path for whatever identity
record Spells (command : Asked) (op : ℕ) (path : List ℕ) (large : Bool) (spelled : IdentityFields → Open) : Type 0 where
  asks : (identity : IdentityFields) → asked_open identity command ≡ Some (op, spelled identity)
  path_is : (identity : IdentityFields) → (spelled identity).path ≡ path
  large_is : (identity : IdentityFields) → (spelled identity).fields.large ≡ large

opened_by : (t : Plan) (j : Journal) (k op : ℕ) (at : ModuleId) (command : Asked) (path : List ℕ) (large : Bool) (spelled : IdentityFields → Open)
    (outs : List Output) → Spells command op path large spelled → IsRun t j → entry_at j k ≡ Some (Step at (Command command) outs)
    → list_any is_refusal outs ≡ false → OpenedAs t j at.0 op k path large
opened_by t j k op at command path large spelled outs spells run there unrefused =
    let x = at_number j k (Step at (Command command) outs) there in
    let next = (run_older t (Step at (Command command) outs ∷ x.before) j x.older run).1 in
    record {
      opened = record {
        step = record {
          at = at;
          input = Command command;
          outputs = outs;
          before = x.before;
          is = x.older;
          number = x.number;
          taken = next;
        };
        here = refl;
        command = command;
        request = spelled next.config.identity;
        event_is = next.given;
        asks = spells.asks next.config.identity;
        path_is = spells.path_is next.config.identity;
        unrefused = unrefused;
      };
      large_is = spells.large_is next.config.identity;
    }

opened_at : (t : Plan) (j : Journal) (k op : ℕ) (at : ModuleId) (timing : Timing) (path : List ℕ) (params : OpenParams) (outs : List Output) → IsRun t j
    → entry_at j k ≡ Some (Step at (Command (commands.Open op timing path params)) outs) → list_any is_refusal outs ≡ false
    → OpenedAs t j at.0 op k path false
opened_at t j k op at timing path params outs run there unrefused =
    opened_by t j k op at (commands.Open op timing path params) path false (λ identity. open_of identity false timing path (widened params)) outs
    (record { asks = λ identity. refl; path_is = λ identity. refl; large_is = λ identity. refl }) run there unrefused

opened_large_at : (t : Plan) (j : Journal) (k op : ℕ) (at : ModuleId) (timing : Timing) (path : List ℕ) (params : LargeParams) (outs : List Output)
    → IsRun t j → entry_at j k ≡ Some (Step at (Command (commands.LargeOpen op timing path params)) outs) → list_any is_refusal outs ≡ false
    → OpenedAs t j at.0 op k path true
opened_large_at t j k op at timing path params outs run there unrefused =
    opened_by t j k op at (commands.LargeOpen op timing path params) path true (λ identity. open_of identity true timing path params) outs
    (record { asks = λ identity. refl; path_is = λ identity. refl; large_is = λ identity. refl }) run there unrefused

-- what its Done tells
done_of : (t : Plan) (j : Journal) (m op k : ℕ) (path bytes ks : List ℕ) (large : Bool) → IsTopology t → IsRun t j → OpenedAs t j m op k path large
    → Gave (part m j) (outputs.Done op bytes) → trail_of j m op ≡ ks → OpenDone t j ks m path large bytes
done_of t j m op k path bytes ks large is run a gave trail =
    subst (λ (b : Bool). OpenDone t j ks m path b bytes) a.large_is
    (subst (λ (ls : List ℕ). OpenDone t j ls m path a.opened.request.fields.large bytes) trail
    ((tells (chassis t is) j run m op).opens k path a.opened bytes gave))

sent_at : (t : Plan) (j : Journal) (k op : ℕ) (at : ModuleId) (timing : Timing) (path request : List ℕ) (outs : List Output) → IsRun t j
    → entry_at j k ≡ Some (Step at (Command (commands.Send op timing path request)) outs) → list_any is_refusal outs ≡ false
    → SentIn t j at.0 op k path request
sent_at t j k op at timing path request outs run there unrefused =
    let x = at_number j k (Step at (Command (commands.Send op timing path request)) outs) there in
    let next = (run_older t (Step at (Command (commands.Send op timing path request)) outs ∷ x.before) j x.older run).1 in
    record {
      step = record {
        at = at;
        input = Command (commands.Send op timing path request);
        outputs = outs;
        before = x.before;
        is = x.older;
        number = x.number;
        taken = next;
      };
      here = refl;
      timing = timing;
      event_is = next.given;
      unrefused = unrefused;
    }

-- ---- an open

last_is : (k l : ℕ) (ks : List ℕ) → IsLast k ks → tip ks ≡ Some l → k ≡ l
last_is k l ks last is = some_same k l (sym (tip_end last.front k) ∙ ap tip (sym last.is) ∙ is)

abbrev gives : ConnectionFailure → Result ConnectionFailure DataFault
gives x = Ok x

ok_failure : (x y : ConnectionFailure) → gives x ≡ gives y → x ≡ y
ok_failure x y e = cc

module _ (t : Plan) (j : Journal) (m : ℕ) (path : List ℕ) (large : Bool) (bytes ks : List ℕ) (done : OpenDone t j ks m path large bytes) (r : Reply)
    (read : reply_at bytes ≡ Ok r) where
  same : done.reply ≡ r
  same = ok_reply done.reply r (sym done.read ∙ read)

  fails_at : (f : ConnectionFailure) (place words : ℕ) → (r.general ≡ 0 → ⊥) → failure_at r.data_ ≡ Ok f → f.words ≡ Some words → IsOn place ks
      → words_at j place ≡ Some words → FailsAt t j ks m path large bytes place words
  fails_at f place words other data_is words_are on received =
      let w : TellsWhere t j ks done.reply = done.fails (λ e. other (ap (λ (x : Reply). x.general) (sym same) ∙ e)) in
      let failures : w.failure ≡ f = ok_failure w.failure f (sym w.read ∙ ap (λ (x : Reply). failure_at x.data_) same ∙ data_is) in
      let told : w.words ≡ words = some_same w.words words (sym w.words_is ∙ ap (λ (x : ConnectionFailure). x.words) failures ∙ words_are) in
      record {
        done = done;
        tells = w;
        place_is = sym (w.only place on (received ∙ ap (λ (n : ℕ). Some n) (sym told)));
        words_is = told;
      }

  succeeds_at : (place e : ℕ) (rest : List ℕ) → r.general ≡ 0 → tip ks ≡ Some place → walk t m path ≡ Some (record { at = e; path = rest })
      → SucceedsAt t j ks m path large bytes place e
  succeeds_at place e rest success ends walks =
      let x : EndsThere t j ks m path = done.succeeds (ap (λ (x : Reply). x.general) same ∙ success) in
      let stops = some_same (record { at = x.step.at.0; path = x.o.path }) (record { at = e; path = rest }) (sym x.walks ∙ walks) in
      record {
        done = done;
        ends = x;
        place_is = last_is x.place place ks x.last ends;
        at_is = ap (λ (s : Stop). s.at) stops;
      }

-- ---- the open that fails, and the one that times out

failed_as : OpenedAs plant failed.ends 0 1 0 failed.path false
failed_as = opened_at plant failed.ends 0 1 (record { 0 = 0 }) (record { tick = 7; ticks = 250 }) failed.path params _ failed_open refl refl

pub failed_opened : OpenedIn plant failed.ends 0 1 0 failed.path
failed_opened = failed_as.opened

pub failed_done : Gave (part 0 failed.ends) (outputs.Done 1 failed.failure)
failed_done = inl (inl refl)

pub failed_trail : trail_of failed.ends 0 1 ≡ 0 ∷ 1 ∷ 2 ∷ []
unfolding behind bytes_at counted_at counted_path_at double_at failure_at hop_of logical_at narrow_at number_at open_at other_at padded_at path_at
    path_words_at plain_port_at point_at port_at reply_at request_at segment_at segments_of segments_within size_at trail_of walk walk_within
failed_trail = refl

failed_words : words_at failed.ends 2 ≡ Some 3
unfolding behind bytes_at counted_at counted_path_at double_at failure_at hop_of logical_at narrow_at number_at open_at other_at padded_at path_at
    path_words_at plain_port_at point_at port_at reply_at request_at segment_at segments_of segments_within size_at trail_of walk walk_within
failed_words = refl

third : IsOn 2 (0 ∷ 1 ∷ 2 ∷ [])
third = record { front = 0 ∷ 1 ∷ []; behind = []; is = refl }

abbrev told : ConnectionFailure
told = record { triad = Some triad; words = Some 3 }

abbrev refused : ℕ → Reply
refused status = record { service = 212; general = 1; extra = status ∷ []; data_ = 66 ∷ 0 ∷ 1 ∷ 1 ∷ 1 ∷ 0 ∷ 0 ∷ 0 ∷ 3 ∷ 0 ∷ [] }

failed_read : reply_at failed.failure ≡ Ok (refused 785)
unfolding behind bytes_at counted_at counted_path_at double_at failure_at hop_of logical_at narrow_at number_at open_at other_at padded_at path_at
    path_words_at plain_port_at point_at port_at reply_at request_at segment_at segments_of segments_within size_at trail_of walk walk_within
failed_read = refl

told_read : failure_at (66 ∷ 0 ∷ 1 ∷ 1 ∷ 1 ∷ 0 ∷ 0 ∷ 0 ∷ 3 ∷ 0 ∷ []) ≡ Ok told
unfolding behind bytes_at counted_at counted_path_at double_at failure_at hop_of logical_at narrow_at number_at open_at other_at padded_at path_at
    path_words_at plain_port_at point_at port_at reply_at request_at segment_at segments_of segments_within size_at trail_of walk walk_within
told_read = refl

pub failed_tells : FailsAt plant failed.ends (0 ∷ 1 ∷ 2 ∷ []) 0 failed.path false failed.failure 2 3
failed_tells =
    let done =
    done_of plant failed.ends 0 1 0 failed.path failed.failure (0 ∷ 1 ∷ 2 ∷ []) false plant_is failed_open failed_as failed_done failed_trail in
    fails_at plant failed.ends 0 failed.path false failed.failure (0 ∷ 1 ∷ 2 ∷ []) done (refused 785) failed_read told 2 3 (λ e. omega (arith, e)) told_read
    refl third failed_words

timed_out_as : OpenedAs plant timed_out.ends 0 1 0 timed_out.path false
timed_out_as = opened_at plant timed_out.ends 0 1 (record { 0 = 0 }) (record { tick = 0; ticks = 5 }) timed_out.path params _ timed_out_open refl refl

pub timed_out_opened : OpenedIn plant timed_out.ends 0 1 0 timed_out.path
timed_out_opened = timed_out_as.opened

pub timed_out_done : Gave (part 0 timed_out.ends) (outputs.Done 1 timed_out.failure)
timed_out_done = inl (inl refl)

pub timed_out_trail : trail_of timed_out.ends 0 1 ≡ 0 ∷ 1 ∷ 2 ∷ []
unfolding behind bytes_at counted_at counted_path_at double_at failure_at hop_of logical_at narrow_at number_at open_at other_at padded_at path_at
    path_words_at plain_port_at point_at port_at reply_at request_at segment_at segments_of segments_within size_at trail_of walk walk_within
timed_out_trail = refl

timed_out_words : words_at timed_out.ends 2 ≡ Some 3
unfolding behind bytes_at counted_at counted_path_at double_at failure_at hop_of logical_at narrow_at number_at open_at other_at padded_at path_at
    path_words_at plain_port_at point_at port_at reply_at request_at segment_at segments_of segments_within size_at trail_of walk walk_within
timed_out_words = refl

timed_out_read : reply_at timed_out.failure ≡ Ok (refused 516)
unfolding behind bytes_at counted_at counted_path_at double_at failure_at hop_of logical_at narrow_at number_at open_at other_at padded_at path_at
    path_words_at plain_port_at point_at port_at reply_at request_at segment_at segments_of segments_within size_at trail_of walk walk_within
timed_out_read = refl

pub timed_out_tells : FailsAt plant timed_out.ends (0 ∷ 1 ∷ 2 ∷ []) 0 timed_out.path false timed_out.failure 2 3
timed_out_tells =
    let done =
    done_of plant timed_out.ends 0 1 0 timed_out.path timed_out.failure (0 ∷ 1 ∷ 2 ∷ []) false plant_is timed_out_open timed_out_as timed_out_done
    timed_out_trail in
    fails_at plant timed_out.ends 0 timed_out.path false timed_out.failure (0 ∷ 1 ∷ 2 ∷ []) done (refused 516) timed_out_read told 2 3 (λ e. omega (arith, e))
    told_read refl third timed_out_words

-- ---- the open that succeeds

chained_as : OpenedAs row chained.arrived 0 1 0 chained.path false
chained_as = opened_at row chained.arrived 0 1 (record { 0 = 0 }) (record { tick = 7; ticks = 250 }) chained.path params _ chained_run refl refl

pub chained_opened : OpenedIn row chained.arrived 0 1 0 chained.path
chained_opened = chained_as.opened

pub chained_done : Gave (part 0 chained.arrived) (outputs.Done 1 chained.third_success)
chained_done = inr (inr (inl (inl refl)))

pub chained_trail : trail_of chained.arrived 0 1 ≡ 0 ∷ 1 ∷ 2 ∷ 3 ∷ []
unfolding behind bytes_at counted_at counted_path_at double_at failure_at hop_of logical_at narrow_at number_at open_at other_at padded_at path_at
    path_words_at plain_port_at point_at port_at reply_at request_at segment_at segments_of segments_within size_at trail_of walk walk_within
chained_trail = refl

abbrev success : ℕ → Reply
success service = record {
  service = service;
  general = 0;
  extra = [];
  data_ = 34 ∷ 0 ∷ 0 ∷ 0 ∷ 17 ∷ 0 ∷ 0 ∷ 0 ∷ 66 ∷ 0 ∷ 1 ∷ 1 ∷ 1 ∷ 0 ∷ 0 ∷ 0 ∷ 16 ∷ 39 ∷ 0 ∷ 0 ∷ 16 ∷ 39 ∷ 0 ∷ 0 ∷ 0 ∷ 0 ∷ [];
}

chained_read : reply_at chained.third_success ≡ Ok (success 212)
unfolding behind bytes_at counted_at counted_path_at double_at failure_at hop_of logical_at narrow_at number_at open_at other_at padded_at path_at
    path_words_at plain_port_at point_at port_at reply_at request_at segment_at segments_of segments_within size_at trail_of walk walk_within
chained_read = refl

chained_walks : walk row 0 chained.path ≡ Some (record { at = 3; path = 32 ∷ 4 ∷ 36 ∷ 100 ∷ 44 ∷ 101 ∷ 44 ∷ 102 ∷ [] })
unfolding behind bytes_at counted_at counted_path_at double_at failure_at hop_of logical_at narrow_at number_at open_at other_at padded_at path_at
    path_words_at plain_port_at point_at port_at reply_at request_at segment_at segments_of segments_within size_at trail_of walk walk_within
chained_walks = refl

pub chained_tells : SucceedsAt row chained.arrived (0 ∷ 1 ∷ 2 ∷ 3 ∷ []) 0 chained.path false chained.third_success 3 3
chained_tells =
    let done =
    done_of row chained.arrived 0 1 0 chained.path chained.third_success (0 ∷ 1 ∷ 2 ∷ 3 ∷ []) false row_is chained_run chained_as chained_done
    chained_trail in
    succeeds_at row chained.arrived 0 chained.path false chained.third_success (0 ∷ 1 ∷ 2 ∷ 3 ∷ []) done (success 212) chained_read 3 3
    (32 ∷ 4 ∷ 36 ∷ 100 ∷ 44 ∷ 101 ∷ 44 ∷ 102 ∷ []) refl refl chained_walks

-- ---- the large open that succeeds

large_as : OpenedAs row larger.stands 0 1 0 chained.path true
large_as = opened_large_at row larger.stands 0 1 (record { 0 = 0 }) (record { tick = 7; ticks = 250 }) chained.path larger.large_params _ large_run refl refl

pub large_opened : OpenedIn row larger.stands 0 1 0 chained.path
large_opened = large_as.opened

pub large_done : Gave (part 0 larger.stands) (outputs.Done 1 larger.third_success)
large_done = inl (inl refl)

pub large_trail : trail_of larger.stands 0 1 ≡ 0 ∷ 1 ∷ 2 ∷ 3 ∷ []
unfolding behind bytes_at counted_at counted_path_at double_at failure_at hop_of logical_at narrow_at number_at open_at other_at padded_at path_at
    path_words_at plain_port_at point_at port_at reply_at request_at segment_at segments_of segments_within size_at trail_of walk walk_within
large_trail = refl

large_read : reply_at larger.third_success ≡ Ok (success 219)
unfolding behind bytes_at counted_at counted_path_at double_at failure_at hop_of logical_at narrow_at number_at open_at other_at padded_at path_at
    path_words_at plain_port_at point_at port_at reply_at request_at segment_at segments_of segments_within size_at trail_of walk walk_within
large_read = refl

-- its reply has the service of a large one
pub large_tells : SucceedsAt row larger.stands (0 ∷ 1 ∷ 2 ∷ 3 ∷ []) 0 chained.path true larger.third_success 3 3
large_tells =
    let done =
    done_of row larger.stands 0 1 0 chained.path larger.third_success (0 ∷ 1 ∷ 2 ∷ 3 ∷ []) true row_is large_run large_as large_done large_trail in
    succeeds_at row larger.stands 0 chained.path true larger.third_success (0 ∷ 1 ∷ 2 ∷ 3 ∷ []) done (success 219) large_read 3 3
    (32 ∷ 4 ∷ 36 ∷ 100 ∷ 44 ∷ 101 ∷ 44 ∷ 102 ∷ []) refl refl chained_walks

-- ---- the Send that is answered

pub stored_sent : SentIn plant stored.ends 0 1 0 stored.path stored.asked
stored_sent = sent_at plant stored.ends 0 1 (record { 0 = 0 }) (record { tick = 7; ticks = 250 }) stored.path stored.asked _ stored_run refl refl

pub stored_done : Gave (part 0 stored.ends) (outputs.Done 1 stored.answer)
stored_done = inl (inl refl)

pub stored_trail : trail_of stored.ends 0 1 ≡ 0 ∷ 1 ∷ 2 ∷ []
unfolding behind bytes_at counted_at counted_path_at double_at failure_at hop_of logical_at narrow_at number_at open_at other_at padded_at path_at
    path_words_at plain_port_at point_at port_at reply_at request_at segment_at segments_of segments_within size_at trail_of walk walk_within
stored_trail = refl

stored_walks : walk plant 0 stored.path ≡ Some (record { at = 2; path = [] })
unfolding behind bytes_at counted_at counted_path_at double_at failure_at hop_of logical_at narrow_at number_at open_at other_at padded_at path_at
    path_words_at plain_port_at point_at port_at reply_at request_at segment_at segments_of segments_within size_at trail_of walk walk_within
stored_walks = refl

pub stored_tells : AnsweredAt plant stored.ends (0 ∷ 1 ∷ 2 ∷ []) 0 stored.path stored.asked stored.answer 2 2
stored_tells =
    let x : AnsweredThere plant stored.ends (0 ∷ 1 ∷ 2 ∷ []) 0 stored.path stored.asked stored.answer =
    subst (λ (ks : List ℕ). AnsweredThere plant stored.ends ks 0 stored.path stored.asked stored.answer) stored_trail
    ((tells (chassis plant plant_is) stored.ends stored_run 0 1).answers 0 stored.path stored.asked stored_sent stored.answer stored_done
    (λ e. omega (arith, e))) in
    let stops = some_same (record { at = x.step.at.0; path = [] }) (record { at = 2; path = [] }) (sym x.walks ∙ stored_walks) in
    record { answered = x; place_is = last_is x.place 2 (0 ∷ 1 ∷ 2 ∷ []) x.last refl; at_is = ap (λ (s : Stop). s.at) stops }
