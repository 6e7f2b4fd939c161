-- A walk of `of`: what comes of the call is a pair, whose parts go into the struct.
use Rattle.std.proofs.Common.{◌≡◌, List, [], ◌∷◌, ◌++◌, refl, sym, ap, ◌∙◌, subst}
use mir.MapTy.{inst_fn}
use mir.Raw.{raw as bits}
use mir.Syntax.{Args, a_type, dcons, dnil}
use mir.Val.{Val, vptr, vstruct, of_list}
use base.Logic.{SProp, ent, emp, never, fst∗, id⊢}
use base.Fml.{ftrue, fsep, flft}
use prog.Wp.{WpFn}
use types.Logic.{sem}
use types.Kit.{‵, raw, ◌⊛◌, some, later, ◌$◌, ◌∵◌, !, qed, by, move, keep, drop}
use types.Kit.{split, split3, join, fsplit, fjoin, fpick, feq_l, pick, suffices, use0, use1, await, rewrite}
use types.Run.{enter, of_opd, stop, fld, no_more, and_then, returns}
use types.ByLocal.{alloc_all, pass_all, free_all, look_at, get, get_in, sets, lands_as}
use types.Part.{agg, sub, whole}
use contract.Monad.{fact, fact_i}
use contract.Running.{tables}
use denote.Builtin.{RawPtr}
use denote.Exit.{no}
use denote.Param.{param, layout, bounded}
use denote.Param.Laws.{param_laws}
use denote.RattleType.{RattleType, owns}
use denote.RawPtr.{Ptr, block_ptr, null_ptr, ptr_val, in_a_block}
use denote.Signature.{types_at, plain}
use denote.Steps.{nothing, only, heard}
use denote.Struct.Tuple.{Tuple}
use denote.Triple.Call.{calls_at}
use denote.Triple.Spec.{triple_of}
use denote.Triple.Walked.{Stays, stay_dropped, walk_of}
use Rattle.core.proofs.alloc.Calls.{Goes-blank, handle_tells}
use Rattle.core.proofs.atomic.Steps.{fm}
use Rattle.std.proofs.raw_atomic.Walks.{proved_at, leaves}
use Rattle.std_alloc.proofs.BoxSteps.Form.{Bx, B, word}
use Rattle.std_alloc.proofs.BoxSteps.Steps.{box_out, box_in}
use Rattle.std_alloc.proofs.boxed.Box.into_raw_with_allocator.Met.{met}
use Rattle.std_alloc.specs.Box.Ownership.{box_owns}
use Rattle.std_alloc.specs.contracts.boxed.Box.into_raw_with_allocator as apart
use Rattle.cip_device.proofs.Parts.{both, bare_good, bare_in}
use Rattle.cip_device.specs.contracts.bare.Bare.of.{ended, clauses}
use Rattle.cip_device.specs.contracts.bare.Bare.of.Key.{name as #self}
use Rattle.cip_device.proofs.bare.Bare.of.Statement.{statement}
use Rattle.cip_device.proofs.bare.Bare.of.Code as code

pub of_spec : {M : Type 1} → statement M
of_spec 𝓤 𝓛 𝓜 𝓡 wired T A LT LA g allocates drops_T drops_A allocator glue_T glue_A =
    let X : RattleType = param 0 T in let Z : RattleType = param 1 A in let LZ = param_laws 1 A LA in let Pair = Tuple (RawPtr ∷ Z ∷ []) in
    let E : Bx = record { row = T; laws = LT; al = record { row = A; laws = LA; g = g; d = allocates; drops = drops_A } } in
    let at_types : Args = bounded (a_type ∷ a_type ∷ []) (T, (A, tt)) (dcons allocates (dcons drops_T (dcons drops_A dnil))) in
    let fn = inst_fn at_types code.function in
    let F = ended T A g allocates drops_T drops_A in let c = clauses T A g allocates drops_T drops_A 𝓛 𝓜.mem 𝓡.returns in
    let C = triple_of 𝓛 (apart.signature T A g allocates drops_A drops_T) (apart.spec T A g allocates drops_A drops_T 𝓛 𝓜.mem 𝓡.returns) in
    let 𝓣 = tables 𝓤 𝓛.H 𝓜 𝓡 𝓡.env in
    let stayed : Stays F.signature.params F.kept = (stay_dropped (plain (λ _. B E)) no, tt) in
    proved_at 𝓛 F stayed c 𝓜 𝓡 (
      Goes-blank 𝓛 2 (plain (λ _. B E)) no
          (λ κs x f. tt),
      tt,
    ) (#self at_types) fn (code.unfolded 𝓤 𝓛.H 𝓜 𝓡 wired (T, (A, tt)) allocates drops_T drops_A) (λ y are.
    let κs = y.0.0 in let qs = y.0.1 in let box = y.0.3.0 in let a = box.alloc in
    let ends : Val → SProp 𝓤 = (walk_of 𝓛 F stayed c).post y in let runs : List Val → SProp 𝓤 = λ vs. WpFn 𝓤 𝓛.H 𝓣.C 𝓣.Λ fn vs ends in
    let alive = ‵ (flft κs.0 qs.0) ⊛ ‵ (flft κs.1.0 qs.1.0) ⊛ ‵ ftrue in
    qed 𝓛 ((alive ⊛ ‵ (owns (types_at F.signature.params κs) y.0.3 y.0.4)) ∷ raw ((c κs y.0.3).requires y.1) ∷ []) ∵
    split ! $ move ! (1 ∷ []) $ fsplit ! $
    box_out E ! box y.0.4.0 (λ b o h at_is vs_are fits. box_in E ! box b o box.value at_is refl $
    -- [the box; no more parameters; the tokens; what is required]
    let w : Val = word E h b o in let typed = bare_good X Z LZ g b o h fits in
    let z : C.Ghost = ((κs, qs, tt, (box, tt), (w ∷ [], tt)), tt) in
    fjoin ! $ move ! (1 ∷ 0 ∷ []) $ join ! $ join ! $ use1 𝓛 (raw (C.pre z)) (id⊢ 𝓤 _) $
    suffices ! (runs (w ∷ [])) (subst (λ (vs : List Val). ent 𝓤 (runs (w ∷ [])) (runs vs)) (sym (λ i. vs_are i ++ [])) (id⊢ 𝓤 (runs (w ∷ [])))) $
    enter ! 𝓣.C 𝓣.Λ fn (w ∷ []) ends $ alloc_all ! (λ l. pass_all ! refl (typed, tt) $
    sets ! (of_opd ! (get ! refl)) refl typed $
    calls_at ! (fm 𝓛 𝓜 𝓡) C (met 𝓤 𝓛 𝓜 𝓡 (code.calls-std_alloc::boxed::Box::into_raw_with_allocator 𝓡.env wired) T A LT LA g allocates
    drops_A drops_T allocator glue_A glue_T) z
    (and_then ! (get ! refl) (no_more !)) (λ v.
    use1 𝓛 (later (some (λ (r : Ptr × A.Denot). (alive ⊛ ‵ (Pair.own_val r (v ∷ []))) ⊛
    some (λ (_ : (Unit {0} × (Unit {0} × Unit {0})) × Unit {0}). ‵ (fsep (fsep ftrue (fsep ftrue ftrue)) ftrue)
    ⊛ (raw (fact 𝓤 (r.1 ≡ a)) ⊛ ‵ (box_owns (g.dealloc_token a) X r.0 box.value)))))) (id⊢ 𝓤 _) $
    await ! tt $ pick ! (λ r. split ! $ move ! (1 ∷ []) $ pick ! (λ _. split3 ! $ drop ! $ heard ! (r.1 ≡ a) (λ same_handle.
    in_a_block ! r.0 (λ p. box_owns (g.dealloc_token a) X p box.value) (fst∗ 𝓤 (never 𝓤) (sem 𝓛 (g.dealloc_token a (bits (layout T)) null_ptr))) (λ b' o' r_is.
    -- [the box's memory; the tokens with the pair]
    move ! (1 ∷ []) $ split ! $ move ! (1 ∷ []) $ fpick ! (λ vss. fsplit ! $ feq_l ! (λ pair. fsplit ! $ feq_l ! (λ first. fsplit ! $
    rewrite ! 0 (λ (k : A.Denot). ‵ (A.own_val k vss.1.0)) same_handle refl $ handle_tells E.al ! a vss.1.0 (λ h' second fits'.
    let made = bare_good X Z LZ g b' o' h' fits' in let point = first ∙ ap (λ (p : Ptr). ptr_val p ∷ []) r_is in
    lands_as ! (ap only (pair ∙ (λ i. vstruct (of_list (point i ++ (second i ++ []))) ∷ []))) refl made $
    sets ! (of_opd ! (get_in ! (fld ! refl (stop !)) (sub ! 0 refl (whole !)))) refl (tt, tt) $
    sets ! (of_opd ! (get_in ! (fld ! refl (stop !)) (sub ! 1 refl (whole !)))) refl fits' $
    sets ! (of_opd ! (get ! refl)) refl fits' $
    sets ! (agg ! (and_then ! (get ! refl) (and_then ! (get ! refl) (no_more !)))) refl made $
    -- [the handle; nothing; the tokens; the box's memory]
    move ! (3 ∷ 0 ∷ []) $ bare_in X Z LZ g ! b' o' h' a box.value $
    use0 𝓛 (raw (fact 𝓤 (box.value ≡ box.value))) (fact_i 𝓤 (box.value ≡ box.value) (emp 𝓤) refl) $ nothing ! $ nothing ! $ fjoin ! $
    returns ! (look_at ! 0 refl) $ free_all ! refl $ keep ! (4 ∷ 0 ∷ 2 ∷ 1 ∷ []) $
    by ! (leaves 𝓛 F stayed c y (both (vptr b' o') h') (record { at = block_ptr b' o'; alloc = a; held = box.value }) ((tt, (tt, tt)), tt) (tt, tt))))))))))))))
