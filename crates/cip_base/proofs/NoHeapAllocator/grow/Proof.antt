-- There is no block to grow: the right to free one is what nothing has.
use Rattle.std.proofs.Common.{refl, w64}
use Rattle.std.specs.Prelude.{ℕ, ◌≤◌, List, [], ◌∷◌}
use seplogic.Ra.Ura.{Ura}
use mir.Syntax.{Args, Fn, a_type}
use mir.Val.{Val, vint, vptr}
use mir.MapTy.{inst_fn}
use base.Logic.{SProp, ent, never_e}
use base.Fml.{Lft, Share, Fml, ffalse, ftrue, flft}
use prog.Memory.{Memory}
use prog.Routine.{Routine}
use prog.Wp.{WpFn, Tables}
use types.Logic.{Logic}
use contract.BorrowLft.{◌⊑◌}
use contract.Monad.{Fun, fact}
use contract.Running.{tables, tables_of}
use sound.WpLaws.{WpFn-mono}
use types.Kit.{Item, ‵, raw, ◌⊛◌, ◌$◌, ◌∵◌, !, qed, by, move, keep, split3, fsplit}
use denote.RattleType.{RattleType, owns}
use denote.Exit.{yes}
use denote.Ref.{Bor, shr_vals}
use denote.Param.{layouts, param}
use denote.Plain.{uint_vals, uint_Tells}
use denote.Signature.{Slot, plain, types_at}
use denote.RawPtr.{Ptr, ptr_val, rawptr_vals, rawptr_Tells}
use denote.Builtin.{usize, RawPtr, RefOf}
use denote.Triple.Clauses.{Clauses}
use denote.Triple.Spec.{triple_of}
use denote.Triple.Table.{entered}
use denote.Triple.Walked.{Stay, Stays, stay_dropped, walk_of, walked, Goes-dropped, walk_Meets}
use Rattle.std.specs.Allocator.{FitsBlock, block_with_items}
use Rattle.cip_base.specs.contracts.NoHeap as BP
use Rattle.cip_base.specs.contracts.NoHeapAllocator.grow as F
use Rattle.cip_base.specs.contracts.NoHeapAllocator.grow.Key as key
use Rattle.cip_base.proofs.NoHeapAllocator.grow.Statement as stated
use Rattle.cip_base.proofs.NoHeapAllocator.grow.Code as code

abbrev self : Slot 2
self = RefOf (0 ∷ []) tt (plain (λ _. BP.the_row)) (λ _. tt)

module _ (X : RattleType) where
  abbrev a_word : Stay {n = 2} (plain (λ _. usize)) yes
  a_word = stay_dropped (plain (λ _. usize)) yes

  abbrev args : Args
  args = layouts (a_type ∷ []) (X, tt)

  abbrev here : Fn
  here = inst_fn args code.function

  abbrev stayed : Stays (F.ended X).signature.params (F.ended X).kept
  stayed = (stay_dropped self yes, (stay_dropped (plain (λ _. RawPtr)) yes, (a_word, (a_word, (a_word, tt)))))

module _ (X : RattleType) {M : Type 1} {𝓤 : Ura M} (𝓛 : Logic 𝓤) (at_mem : Memory → SProp 𝓤) (run : Routine → Fun 𝓤)
    (𝓣 : Tables 𝓤 𝓛.H) (κ κT : Lft) (q qT : Share) (r : Bor (BP.the_row).Denot) (len old new : ℕ) (xs : List X.Denot) where
  open 𝓛 use {H}

  abbrev clauses : Clauses 𝓤 (F.ended X)
  clauses = F.clauses X 𝓛 at_mem run

  abbrev bound : Ptr → (walk_of 𝓛 (F.ended X) (stayed X) clauses).Ghost
  bound x = (
    (
      (κ, (κT, tt)),
      (q, (qT, tt)),
      tt,
      (r, (x, (len, (old, (new, tt))))),
      (shr_vals r, (rawptr_vals x, (vint w64 len ∷ [], (vint w64 old ∷ [], (vint w64 new ∷ [], tt))))),
    ),
    xs,
  )

  abbrev vs : Ptr → List Val
  vs x = vptr r.ref_ptr.0 r.ref_ptr.1 ∷ ptr_val x ∷ vint w64 len ∷ vint w64 old ∷ vint w64 new ∷ []

  abbrev Post : Ptr → Val → SProp 𝓤
  Post x = (walk_of 𝓛 (F.ended X) (stayed X) clauses).post (bound x)

  abbrev entry : Ptr → Item 𝓤
  entry x = (‵ (flft κ q) ⊛ ‵ (flft κT qT) ⊛ ‵ ftrue) ⊛ ‵ (owns (types_at (F.signature X).params (bound x).0.0) (bound x).0.3 (bound x).0.4)

  abbrev block : Ptr → Fml
  block x = block_with_items (λ _ _. ffalse) (param 0 X) x len old xs

  abbrev asked : Ptr → Item 𝓤
  asked x = raw (fact 𝓤 (κT ⊑ X.lives)) ⊛ raw (fact 𝓤 ((len ≤ old) × (old ≤ new) × FitsBlock (param 0 X) new)) ⊛ ‵ (block x)

  walk : (x : Ptr) → ent 𝓤 ((walk_of 𝓛 (F.ended X) (stayed X) clauses).pre (bound x)) (WpFn 𝓤 H 𝓣.C 𝓣.Λ (here X) (vs x) (Post x))
  walk x = qed 𝓛 (entry x ∷ asked x ∷ []) ∵
      move ! (1 ∷ []) $ split3 ! $ move ! (2 ∷ []) $ fsplit ! $ move ! (1 ∷ []) $ fsplit ! $ keep ! (1 ∷ []) $ by ! (never_e 𝓤 _)

pub grow_spec : {M : Type 1} → stated.statement M
unfolding tables_of
grow_spec 𝓤 𝓛 𝓜 𝓡 wired X _ =
    let 𝓣 : Tables 𝓤 𝓛.H = tables_of 𝓤 𝓛.H 𝓜 (tables 𝓤 𝓛.H 𝓜 𝓡 𝓡.env) in
    let c = F.clauses X 𝓛 𝓜.mem 𝓡.returns in
    let gone = λ (V : RattleType). Goes-dropped 𝓛 2 (plain (λ _. V)) yes in
    let word_gone = gone usize (λ κs x f. refl) in
    entered 𝓤 𝓛.H (triple_of 𝓛 (F.signature X) (F.spec X 𝓛 𝓜.mem 𝓡.returns)) 𝓣.C 𝓣.Λ (key.name (args X)) (here X)
    (code.unfolded 𝓤 𝓛.H 𝓜 𝓡 wired (X, tt))
    (walk_Meets 𝓛 (F.ended X) (stayed X)
    (Goes-dropped 𝓛 2 self yes (λ κs x f. refl), (gone RawPtr (λ κs x f. refl), (word_gone, (word_gone, (word_gone, tt))))) c
    (WpFn 𝓤 𝓛.H 𝓣.C 𝓣.Λ (here X)) (WpFn-mono 𝓤 𝓛.H 𝓛.laws 𝓣 (here X))
    (walked 𝓛 (F.ended X) (stayed X) c (WpFn 𝓤 𝓛.H 𝓣.C 𝓣.Λ (here X))
    (λ κs. (shr_vals, (rawptr_vals, (uint_vals w64, (uint_vals w64, (uint_vals w64, tt))))))
    (λ κs. ((λ r vs s. s.0), (rawptr_Tells, (uint_Tells w64, (uint_Tells w64, (uint_Tells w64, tt))))))
    (λ κs qs bounds a xs are. walk X 𝓛 𝓜.mem 𝓡.returns 𝓣 κs.0 κs.1.0 qs.0 qs.1.0 a.0 a.1.1.0 a.1.1.1.0 a.1.1.1.1.0 xs a.1.0)))
