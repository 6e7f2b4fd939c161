-- A walk of `boxed`: the parts go into the call, and what comes of it is handed on.
use Rattle.std.proofs.Common.{◌≡◌, List, [], ◌∷◌, ◌++◌, refl, sym, ap, subst}
use mir.MapTy.{inst_fn}
use mir.Syntax.{Args, a_type, dcons, dnil}
use mir.Val.{Val, vptr}
use base.Logic.{SProp, ent, id⊢}
use base.Fml.{ftrue, flft}
use prog.Wp.{WpFn}
use types.Kit.{‵, raw, ◌⊛◌, some, later, at_ret, ◌$◌, ◌∵◌, !, qed, by, move}
use types.Kit.{keep, drop, split, split3, join, fsplit, fjoin, feq_i, pick, suffices, use1, await, rewrite}
use types.Run.{enter, of_opd, stop, fld, no_more, and_then, first, blocks, exec, returns}
use types.ByLocal.{alloc_all, pass_all, free_all, look_at, get, get_in, sets, lands_last, env}
use types.Part.{sub, whole}
use contract.BorrowLft.{◌⊑◌}
use contract.Monad.{fact}
use contract.Running.{tables}
use denote.Exit.{no}
use denote.Param.{param, layout, bounded}
use denote.Param.Laws.{param_laws}
use denote.RattleType.{RattleType, owns}
use denote.RawPtr.{block_ptr}
use denote.Signature.{types_at, plain}
use denote.Steps.{nothing, only}
use denote.Triple.Call.{calls_at_last}
use denote.Triple.Clauses.{Lasts, lasts}
use denote.Triple.Spec.{triple_of}
use denote.Triple.Walked.{Stays, stay_dropped, walk_of}
use Rattle.core.proofs.alloc.Calls.{Goes-blank}
use Rattle.core.proofs.alloc.Shapes.{after}
use Rattle.core.proofs.atomic.Steps.{fm}
use Rattle.core.proofs.cell.Inside.{Good}
use Rattle.std.proofs.raw_atomic.Walks.{proved_at, leaves}
use Rattle.std_alloc.proofs.BoxSteps.Form.{Bx, B}
use Rattle.std_alloc.proofs.BoxSteps.Steps.{box_out, box_in}
use Rattle.std_alloc.proofs.boxed.Box.from_raw.Met.{met}
use Rattle.std_alloc.specs.contracts.boxed.Box.from_raw as together
use Rattle.cip_device.proofs.Parts.{both, BareRow, bare_good, bare_out}
use Rattle.cip_device.specs.contracts.bare.Bare.boxed.{ended, clauses}
use Rattle.cip_device.specs.contracts.bare.Bare.boxed.Key.{name as #self}
use Rattle.cip_device.proofs.bare.Bare.boxed.Statement.{statement}
use Rattle.cip_device.proofs.bare.Bare.boxed.Code as code

pub boxed_spec : {M : Type 1} → statement M
boxed_spec 𝓤 𝓛 𝓜 𝓡 wired T A LT LA g allocates drops_T drops_A allocator glue_T glue_A =
    let X : RattleType = param 0 T in let Z : RattleType = param 1 A in let LZ = param_laws 1 A LA in let Parts : RattleType = BareRow X Z LZ g in
    let E : Bx = record { row = T; laws = LT; al = record { row = A; laws = LA; g = g; d = allocates; drops = drops_A } } in
    let at_types : Args = bounded (a_type ∷ a_type ∷ []) (T, (A, tt)) (dcons allocates (dcons drops_T (dcons drops_A dnil))) in
    let fn = inst_fn at_types code.function in
    let F = ended T A g allocates drops_T drops_A in let c = clauses T A g allocates drops_T drops_A 𝓛 𝓜.mem 𝓡.returns in
    let C = triple_of 𝓛 (together.signature T A g allocates drops_A) (together.spec T A g allocates drops_A 𝓛 𝓜.mem 𝓡.returns) in
    let 𝓣 = tables 𝓤 𝓛.H 𝓜 𝓡 𝓡.env in
    let stayed : Stays F.signature.params F.kept = (stay_dropped (plain (λ _. Parts)) no, tt) in
    proved_at 𝓛 F stayed c 𝓜 𝓡 (
      Goes-blank 𝓛 2 (plain (λ _. Parts)) no
          (λ κs x f. tt),
      tt,
    ) (#self at_types) fn (code.unfolded 𝓤 𝓛.H 𝓜 𝓡 wired (T, (A, tt)) allocates drops_T drops_A) (λ y are.
    let κs = y.0.0 in let qs = y.0.1 in let parts = y.0.3.0 in let a = parts.alloc in
    let ends : Val → SProp 𝓤 = (walk_of 𝓛 F stayed c).post y in let runs : List Val → SProp 𝓤 = λ vs. WpFn 𝓤 𝓛.H 𝓣.C 𝓣.Λ fn vs ends in
    let alive = ‵ (flft κs.0 qs.0) ⊛ ‵ (flft κs.1.0 qs.1.0) ⊛ ‵ ftrue in
    qed 𝓛 ((alive ⊛ ‵ (owns (types_at F.signature.params κs) y.0.3 y.0.4)) ∷ raw ((c κs y.0.3).requires y.1) ∷ []) ∵
    split ! $ move ! (1 ∷ []) $ fsplit ! $
    bare_out X Z LZ g ! parts y.0.4.0 (λ b o h at_is vs_are fits.
    -- [the box's memory; the handle; no more parameters; the tokens; what is required]
    let w : Val = both (vptr b o) h in let typed = bare_good X Z LZ g b o h fits in
    let z : C.Ghost = ((κs, qs, tt, (a, (block_ptr b o, tt)), (h ∷ [], (vptr b o ∷ [], tt))), parts.held) in
    move ! (4 ∷ []) $ use1 𝓛 (raw (fact 𝓤 (κs.0 ⊑ T.lives)) ⊛ raw (fact 𝓤 (κs.1.0 ⊑ A.lives)) ⊛ ‵ ftrue) (id⊢ 𝓤 _) $ split3 ! $ move ! (2 ∷ []) $ drop ! $
    -- [the two facts; the box's memory; the handle; no more parameters; the tokens]
    move ! (1 ∷ 2 ∷ []) $ join ! $ move ! (1 ∷ 0 ∷ []) $ join ! $
    move ! (2 ∷ []) $ feq_i ! (List Val) (vptr b o ∷ []) (vptr b o ∷ []) refl $ fjoin ! $ move ! (2 ∷ 0 ∷ []) $ fjoin ! $ move ! (2 ∷ 0 ∷ []) $ join ! $
    join ! $
    use1 𝓛 (raw (C.pre z)) (id⊢ 𝓤 _) $
    suffices ! (runs (w ∷ [])) (subst (λ (vs : List Val). ent 𝓤 (runs (w ∷ [])) (runs vs)) (sym (λ i. vs_are i ++ [])) (id⊢ 𝓤 (runs (w ∷ [])))) $
    enter ! 𝓣.C 𝓣.Λ fn (w ∷ []) ends $ alloc_all ! (λ l. pass_all ! refl (typed, tt) $
    sets ! (of_opd ! (get_in ! (fld ! refl (stop !)) (sub ! 0 refl (whole !)))) refl (tt, tt) $
    sets ! (of_opd ! (get_in ! (fld ! refl (stop !)) (sub ! 1 refl (whole !)))) refl fits $
    first ! $ blocks ! $ sets ! (of_opd ! (get ! refl)) refl fits $
    calls_at_last ! (fm 𝓛 𝓜 𝓡) C (met 𝓤 𝓛 𝓜 𝓡 (code.calls-std_alloc::boxed::Box::from_raw 𝓡.env wired) T A LT LA g allocates drops_A allocator glue_A) z
    (and_then ! (get ! refl) (and_then ! (get ! refl) (no_more !))) (λ v.
    use1 𝓛 (later (some (λ (r : (B E).Denot). (alive ⊛ ‵ ((B E).own_val r (v ∷ []))) ⊛
    some (λ (ws : Lasts (together.ended T A g allocates drops_A) κs z.0.3). ‵ (lasts (together.ended T A g allocates drops_A) κs z.0.3 ws) ⊛
    (raw (fact 𝓤 (r.value ≡ parts.held)) ⊛ raw (fact 𝓤 (r.alloc ≡ a))))))) (id⊢ 𝓤 (C.post z v)) $
    await ! tt $ pick ! (λ r. split ! $ move ! (1 ∷ []) $ pick ! (λ _. split3 ! $ drop ! $
    -- [what it held; whose memory; the tokens with the box]
    move ! (2 ∷ []) $ split ! $ move ! (1 ∷ []) $
    box_out E ! r (v ∷ []) (λ b' o' h' r_is v_is fits'. box_in E ! r b' o' r.value r_is refl $
    rewrite ! 0 (λ (vs : List Val). ‵ ((B E).own_val r vs)) (sym v_is) refl $
    let good : Good (layout (B E)) v = subst (Good (layout (B E))) (sym (ap only v_is)) (bare_good X Z LZ g b' o' h' fits') in
    lands_last ! refl good $ exec ! 𝓣.C 𝓣.Λ (env fn.locals l) (after 3 fn.body) (at_ret (env fn.locals l) ends) $
    sets ! (of_opd ! (get ! refl)) refl good $ nothing ! $ nothing ! $ fjoin ! $
    returns ! (look_at ! 0 refl) $ free_all ! refl $ keep ! (2 ∷ 0 ∷ 1 ∷ 3 ∷ []) $ by ! (leaves 𝓛 F stayed c y v r ((tt, (tt, tt)), tt) (tt, tt)))))))))
