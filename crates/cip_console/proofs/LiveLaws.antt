-- What a script gives to modules on threads, and the text of their run, one entry at a time.
use Rattle.std.proofs.Common.{◌≡◌, ◌⊎◌, ℕ, ◌+◌, List, [], ◌∷◌, ◌++◌, Option, Some, None, Result, Ok, Err, drop, length, refl, sym, ap, ◌∙◌, subst, append_assoc}
use Rattle.std.proofs.Common.{append-nil, inl, inr}
use Rattle.std.specs.Prelude.{All, IfSome}
use Rattle.std.specs.Io.KnownBytes.{Appends}
use Rattle.std.proofs.KnownBytes.{Keeps-refl}
use Rattle.cip_chassis.specs.Plan.{Plan}
use Rattle.cip_world.specs.declared.journal.Entry.{Entry}
use Rattle.cip_console.specs.declared.fault.ConsoleFault.TheVariants.{Read, NoMemory}
use Rattle.cip_script.specs.declared.steps.Numbered.{Numbered}
use Rattle.cip_script.specs.declared.steps.ScriptFault.{ScriptFault}
use Rattle.cip_console.specs.Known.{AppendsFront}
use Rattle.cip_console.specs.Live.{Fed, Feeds, Front, WroteLiveOf, entries_text, feed_of, feeds_of, given_by, with_feed}
use Rattle.cip_console.specs.Playing.{Prints}
use Rattle.cip_transcript.specs.Show.{entry_text}
use Rattle.cip_console.proofs.Left.{left_of, is_left}
use Rattle.cip_console.proofs.Prints.{prints_nothing, prints_more, prints_then, front_of_prints, front_then, front_more}

-- ---- where nothing was written

pub nothing_run : (t : Plan) (turns : ℕ) (old : Option (List ℕ)) (given : Feeds) → Front t turns old old given
nothing_run t turns old (Err first) = Keeps-refl old
nothing_run t turns old (Ok given) = inl (Keeps-refl old)

pub none_heard : (t : Plan) (turns : ℕ) (left old : Option (List ℕ)) → WroteLiveOf t turns left old old (Err Read)
none_heard t turns left old = record { script = left_of left; read = is_left left; wrote = Keeps-refl old }

pub no_memory_to_run : (t : Plan) (turns : ℕ) (left old : Option (List ℕ)) → WroteLiveOf t turns left old old (Err NoMemory)
no_memory_to_run t turns left old = record {
  script = left_of left;
  read = is_left left;
  wrote = nothing_run t turns old (given_by t (left_of left));
}

pub ruleset unheard_laws = (none_heard, no_memory_to_run)

-- ---- what a script gives

-- some feeds before others
abbrev pub before : List Fed → Feeds → Feeds
before front (Ok more) = Ok (front ++ more)
before front (Err fault) = Err fault

pub before_one : (front : List Fed) (fed : Fed) (rest : Feeds) → before front (with_feed (Ok fed) rest) ≡ before (front ++ fed ∷ []) rest
before_one front fed (Ok more) = ap Ok (sym (append_assoc front (fed ∷ []) more))
before_one front fed (Err fault) = refl

pub nothing_before : (rest : Feeds) → before [] rest ≡ rest
nothing_before (Ok more) = refl
nothing_before (Err fault) = refl

-- one step more was read
pub one_fed : (modules : ℕ) (front : List Fed) (whole : Feeds) (numbered : Numbered) (more : List Numbered) (fed : Fed)
    → before front (feeds_of modules (numbered ∷ more)) ≡ whole
    → feed_of modules numbered.line numbered.step ≡ Ok fed
    → before (front ++ fed ∷ []) (feeds_of modules more) ≡ whole
one_fed modules front whole numbered more fed so_far is =
    sym (before_one front fed (feeds_of modules more)) ∙ ap (λ one. before front (with_feed one (feeds_of modules more))) (sym is) ∙ so_far

-- a step is no feed
pub none_fed : (modules : ℕ) (front : List Fed) (whole : Feeds) (numbered : Numbered) (more : List Numbered) (why : ℕ × ScriptFault)
    → before front (feeds_of modules (numbered ∷ more)) ≡ whole
    → feed_of modules numbered.line numbered.step ≡ Err why
    → whole ≡ Err why
none_fed modules front whole numbered more why so_far is =
    sym so_far ∙ ap (λ one. before front (with_feed one (feeds_of modules more))) is

-- no step is left
pub all_fed : (modules : ℕ) (front : List Fed) (whole : Feeds) → before front (feeds_of modules []) ≡ whole → whole ≡ Ok front
all_fed modules front whole so_far = sym so_far ∙ ap Ok (append-nil front)

-- ---- the text of a journal

-- the entries below k were printed
pub record Writing (names : List (List ℕ)) (entries : List Entry) (old new : Option (List ℕ)) (before after : List ℕ) (k : ℕ) : Type 0 where
  pub so_far : List ℕ
  pub prints : Prints old new before after so_far
  pub joined : so_far ++ entries_text names k (drop k entries) ≡ entries_text names 0 entries

pub none_written : (names : List (List ℕ)) (entries : List Entry) (old : Option (List ℕ)) (text : List ℕ) → Writing names entries old old text text 0
none_written names entries old text = record { so_far = []; prints = prints_nothing old text; joined = refl }

-- one more is printed
pub one_written : (names : List (List ℕ)) (entries : List Entry) (old mid new : Option (List ℕ)) (before between gathered after : List ℕ) (k : ℕ)
    (entry : Entry)
    → Writing names entries old mid before between k
    → drop k entries ≡ entry ∷ drop (k + 1) entries
    → gathered ≡ between ++ entry_text names k entry
    → Prints mid new gathered after []
    → Writing names entries old new before after (k + 1)
one_written names entries old mid new before between gathered after k entry w next put flushed =
    record {
      so_far = w.so_far ++ entry_text names k entry;
      prints = subst (Prints old new before after) (append-nil (w.so_far ++ entry_text names k entry))
          (prints_then old mid new before gathered after (w.so_far ++ entry_text names k entry) []
          (prints_more old mid before between gathered w.so_far (entry_text names k entry) w.prints put) flushed);
      joined = append_assoc w.so_far (entry_text names k entry) (entries_text names (k + 1) (drop (k + 1) entries))
          ∙ ap (λ es. w.so_far ++ entries_text names k es) (sym next) ∙ w.joined;
    }

-- all were printed
pub all_written : (names : List (List ℕ)) (entries : List Entry) (old new : Option (List ℕ)) (before after : List ℕ) (k : ℕ)
    → Writing names entries old new before after k
    → drop k entries ≡ []
    → Prints old new before after (entries_text names 0 entries)
all_written names entries old new before after k w none =
    subst (Prints old new before after) (sym (append-nil w.so_far) ∙ ap (λ es. w.so_far ++ entries_text names k es) (sym none) ∙ w.joined) w.prints

-- what was printed so far is a prefix of all
pub front_written : (names : List (List ℕ)) (entries : List Entry) (old new : Option (List ℕ)) (before after : List ℕ) (k : ℕ)
    → Writing names entries old new before after k
    → AppendsFront old new (before ++ entries_text names 0 entries)
front_written names entries old new before after k w =
    subst (λ text. AppendsFront old new (before ++ text)) w.joined
    (front_of_prints old new before after w.so_far (entries_text names k (drop k entries)) w.prints)

-- a prefix of one more
pub front_of_one : (names : List (List ℕ)) (entries : List Entry) (old mid new : Option (List ℕ)) (before between gathered : List ℕ) (k : ℕ) (entry : Entry)
    → Writing names entries old mid before between k
    → drop k entries ≡ entry ∷ drop (k + 1) entries
    → gathered ≡ between ++ entry_text names k entry
    → AppendsFront mid new gathered
    → AppendsFront old new (before ++ entries_text names 0 entries)
front_of_one names entries old mid new before between gathered k entry w next put front =
    subst (λ text. AppendsFront old new (before ++ text)) w.joined
    (subst (λ es. AppendsFront old new (before ++ (w.so_far ++ entries_text names k es))) (sym next)
    (front_then old mid new before between w.so_far (entry_text names k entry ++ entries_text names (k + 1) (drop (k + 1) entries)) w.prints
    (subst (AppendsFront mid new) (append_assoc between (entry_text names k entry) (entries_text names (k + 1) (drop (k + 1) entries)))
    (front_more mid new (between ++ entry_text names k entry) (entries_text names (k + 1) (drop (k + 1) entries)) (subst (AppendsFront mid new) put front)))))
