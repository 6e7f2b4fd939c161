-- Text that is gathered, and written in pieces.
use Rattle.std.proofs.Common.{◌≡◌, ℕ, List, [], ◌++◌, Option, refl, sym, ap, ◌∙◌, subst, append_assoc, append-nil}
use Rattle.std.specs.Io.KnownBytes.{Appends}
use Rattle.std.proofs.KnownBytes.{Appends-nil, Appends-trans}
use Rattle.cip_console.specs.Known.{AppendsFront}
use Rattle.cip_console.specs.Playing.{Prints}

pub prints_nothing : (old : Option (List ℕ)) (text : List ℕ) → Prints old old text text []
prints_nothing old text = record { done = []; wrote = Appends-nil old; joined = append-nil text }

-- one text more is gathered
pub prints_more : (old new : Option (List ℕ)) (before mid after text more : List ℕ) → Prints old new before mid text → after ≡ mid ++ more
    → Prints old new before after (text ++ more)
prints_more old new before mid after text more p e =
    record {
      done = p.done;
      wrote = p.wrote;
      joined = sym (append_assoc before text more) ∙ ap (λ l. l ++ more) p.joined ∙ append_assoc p.done mid more
          ∙ ap (λ l. p.done ++ l) (sym e);
    }

-- one print after another
pub prints_then : (old mid new : Option (List ℕ)) (before between after text more : List ℕ) → Prints old mid before between text
    → Prints mid new between after more
    → Prints old new before after (text ++ more)
prints_then old mid new before between after text more p q =
    record {
      done = p.done ++ q.done;
      wrote = Appends-trans _ _ _ _ _ p.wrote q.wrote;
      joined = sym (append_assoc before text more) ∙ ap (λ l. l ++ more) p.joined ∙ append_assoc p.done between more ∙ ap (λ l. p.done ++ l) q.joined
          ∙ sym (append_assoc p.done q.done after);
    }

pub front_nothing : (old : Option (List ℕ)) (text : List ℕ) → AppendsFront old old text
front_nothing old text = record { front = []; rest = text; split = refl; wrote = Appends-nil old }

-- a prefix of a text is one of a longer text
pub front_more : (old new : Option (List ℕ)) (text more : List ℕ) → AppendsFront old new text → AppendsFront old new (text ++ more)
front_more old new text more p = record {
  front = p.front;
  rest = p.rest ++ more;
  split =
      ap (λ l. l ++ more) p.split ∙ append_assoc p.front p.rest more;
  wrote = p.wrote;
}

-- what is written so far is a prefix of all that is printed
pub front_of_prints : (old new : Option (List ℕ)) (before after text more : List ℕ) → Prints old new before after text
    → AppendsFront old new (before ++ (text ++ more))
front_of_prints old new before after text more p =
    record {
      front = p.done;
      rest = after ++ more;
      split = sym (append_assoc before text more) ∙ ap (λ l. l ++ more) p.joined ∙ append_assoc p.done after more;
      wrote = p.wrote;
    }

-- a print, and then a prefix of what was gathered and of what comes after it
pub front_then : (old mid new : Option (List ℕ)) (before between text more : List ℕ) → Prints old mid before between text
    → AppendsFront mid new (between ++ more)
    → AppendsFront old new (before ++ (text ++ more))
front_then old mid new before between text more p q =
    record {
      front = p.done ++ q.front;
      rest = q.rest;
      split = sym (append_assoc before text more) ∙ ap (λ l. l ++ more) p.joined ∙ append_assoc p.done between more ∙ ap (λ l. p.done ++ l) q.split
          ∙ sym (append_assoc p.done q.front q.rest);
      wrote = Appends-trans _ _ _ _ _ p.wrote q.wrote;
    }

-- all that was gathered was written
pub prints_all : (old new : Option (List ℕ)) (before text : List ℕ) → Prints old new before [] text → Appends old new (before ++ text)
prints_all old new before text p = subst (Appends old new) (sym (p.joined ∙ append-nil p.done)) p.wrote
