-- A pointer beside an allocator's handle, as the machine has them: the parts of a box, and a device's handle. Assumes `Logic`.
--     BareRow, Device     the two structs as rows.        R, Z, LZ     of a device: what lies behind it, and its allocator, with its laws
--     bare_out, bare_in     the parts by value are [the box's memory; the handle]
--     device_out, device_in, device_null     a device by value is the same, or at null [the handle]
use Rattle.std.proofs.Common.{◌≡◌, ℕ, List, [], ◌∷◌, ◌++◌, refl, ap, ◌∙◌}
use mathlib.Core.Bool.{true, ◌&&◌}
use lib.Dec.{T, lit<}
use seplogic.Ra.Ura.{Ura}
use mir.Syntax.{impl, tnil, dnil}
use mir.Raw.{raw as bits}
use mir.Val.{Val, vptr, vstruct, vcons, vnil, of_list, has_ty, WT}
use base.Logic.{never, fst∗, guard_i}
use types.Logic.{Logic, sem}
use types.Kit.{Item, Goal, Seq, Step, step, given, ‵, ◌$◌, move, drop, learn, use1, fsplit, fjoin, fpick, fpack, feq_i, feq_l}
use contract.Monad.{fact_use}
use denote.RattleType.{RattleType, Valss}
use denote.Builtin.{RawPtr}
use denote.Memory.{lone}
use denote.RawPtr.{Ptr, Testable, block_ptr, null_ptr, ptr_val, in_a_block}
use denote.Steps.{nothing}
use denote.Param.{layout}
use denote.Param.Laws.{Laws}
use denote.Struct.Struct.{within}
use denote.Struct.Owning.{shape, to}
use Rattle.core.specs.declared.alloc.Allocator.{Ghosts}
use Rattle.core.proofs.alloc.Calls.{Al, handle_tells}
use Rattle.core.proofs.cell.Inside.{Good}
use Rattle.std_alloc.proofs.ResultValues.{and_tt}
use Rattle.std_alloc.specs.Box.Ownership.{box_owns}
use Rattle.std.proofs.GlobalToken.{dealloc_token-Testable}
use Rattle.std.proofs.alloc.Global.TheLaws as heap_laws
use Rattle.std.specs.contracts.alloc.Global as heap
use Rattle.std.specs.contracts.impls.GlobalAllocator.TheImpl.{ghosts}
use Rattle.std.specs.declared.alloc.Global.{Global}
use Rattle.std.specs.declared.option.Option.{Option}
use Rattle.std.specs.declared.option.Option.TheVariants.{None, Some}
use Rattle.cip_device.specs.Handle.{device_owns}
use Rattle.cip_device.specs.contracts.bare.Bare as bare
use Rattle.cip_device.specs.contracts.handle.CipDevice as device
use Rattle.cip_device.specs.contracts.held.Held as held

abbrev pub both : Val → Val → Val
both v w = vstruct (vcons v (vcons w vnil))

-- ---- the parts of a box
module _ (R Z : RattleType) (L : Laws Z) (g : Ghosts Z.Denot) where
  abbrev pub BareRow : RattleType
  BareRow = bare.the_row R Z g

  abbrev owner : Al
  owner = record { row = Z; laws = L; g = g; d = impl [] tnil dnil; drops = impl [] tnil dnil }

  pub bare_good : (b o : ℕ) (h : Val) → Good (layout Z) h → T (has_ty (layout Z) h && true) × WT (both (vptr b o) h)
  bare_good b o h fits = (and_tt (has_ty (layout Z) h) fits.0, (tt, (fits.1, tt)))

  module _ {M : Type 1} {𝓤 : Ura M} {𝓛 : Logic 𝓤} {K : Type 0} {Γ : List (Item 𝓤)} {G : Goal 𝓤 𝓛.H} where
    pub bare_out : K → (d : BareRow.Denot) (vs : List Val)
        → ((b o : ℕ) (h : Val) → d.at ≡ block_ptr b o → vs ≡ both (vptr b o) h ∷ [] → Good (layout Z) h
        → Seq K 𝓛 (‵ (box_owns (g.dealloc_token d.alloc) R (block_ptr b o) d.held) ∷ ‵ (Z.own_val d.alloc (h ∷ [])) ∷ Γ) G)
        → Seq K 𝓛 (‵ (BareRow.own_val d vs) ∷ Γ) G
    bare_out t d vs next =
        fsplit t $ fpick t (λ vss. fsplit t $ feq_l t (λ whole. fsplit t $ feq_l t (λ first. fsplit t $ handle_tells owner t d.alloc vss.1.0 (λ h second fits.
        -- [the handle; nothing; the box's memory]
        move t (2 ∷ 1 ∷ []) $ in_a_block t d.at
        (λ p. box_owns (g.dealloc_token d.alloc) R p d.held) (fst∗ 𝓤 (never 𝓤) (sem 𝓛 (g.dealloc_token d.alloc (bits (lone R.mir)) null_ptr))) (λ b o at_is.
        move t (1 ∷ []) $ drop t $
        next b o h at_is (whole ∙ (λ i. vstruct (of_list (first i ++ (second i ++ []))) ∷ []) ∙ ap (λ (p : Ptr). both (ptr_val p) h ∷ []) at_is) fits)))))

    pub bare_in : K → (b o : ℕ) (h : Val) (a : Z.Denot) (x : R.Denot)
        → Step K 𝓛 (‵ (BareRow.own_val (record { at = block_ptr b o; alloc = a; held = x }) (both (vptr b o) h ∷ [])) ∷ Γ) G
        (‵ (box_owns (g.dealloc_token a) R (block_ptr b o) x) ∷ ‵ (Z.own_val a (h ∷ [])) ∷ Γ) G
    bare_in t b o h a x = step (λ next.
        nothing t $ move t (2 ∷ 0 ∷ []) $ fjoin t $ feq_i t (List Val) (vptr b o ∷ []) _ refl $ fjoin t $
        feq_i t (List Val) (both (vptr b o) h ∷ []) _ refl $ fjoin t $
        fpack t (Valss (RawPtr ∷ Z ∷ [])) (within (shape (bare.the_type R Z g)) (block_ptr b o, (a, tt)) (both (vptr b o) h ∷ [])) (
          vptr b o ∷ [],
          (
            h
                ∷ [],
            tt,
          ),
        ) $ fjoin t $ next)

-- ---- a device
abbrev pub Device : RattleType
Device = device.the_row

abbrev pub R : RattleType
R = held.the_row

abbrev pub Z : RattleType
Z = heap.the_row

abbrev pub LZ : Laws Z
LZ = heap_laws.the_row_laws

abbrev of_heap : Al
of_heap = record { row = Z; laws = LZ; g = ghosts; d = impl [] tnil dnil; drops = impl [] tnil dnil }

pub null_good : (h : Val) → Good (layout Z) h → T (has_ty (layout Z) h && true) × WT (both (ptr_val null_ptr) h)
null_good h fits = (and_tt (has_ty (layout Z) h) fits.0, (record { fits = lit< tt }, (fits.1, tt)))

module _ {M : Type 1} {𝓤 : Ura M} {𝓛 : Logic 𝓤} {K : Type 0} {Γ : List (Item 𝓤)} {G : Goal 𝓤 𝓛.H} where
  -- what is held goes by the pointer
  by_pointer : K → (a : Global) (p : Ptr) (m : Option R.Denot)
      → (p ≡ null_ptr → m ≡ None → Seq K 𝓛 Γ G)
      → ((b o : ℕ) (x : R.Denot) → p ≡ block_ptr b o → m ≡ Some x → Testable (block_ptr b o)
      → Seq K 𝓛 (‵ (box_owns (ghosts.dealloc_token a) R (block_ptr b o) x) ∷ Γ) G)
      → Seq K 𝓛 (‵ (device_owns R a p m) ∷ Γ) G
  by_pointer t a null_ptr None none some = drop t $ none refl refl
  by_pointer t a null_ptr (Some x) none some = fpick t (λ wrong. absurd wrong)
  by_pointer t a (block_ptr b o) None none some = fpick t (λ wrong. absurd wrong)
  by_pointer t a (block_ptr b o) (Some x) none some =
      let token = ghosts.dealloc_token a (bits (lone R.mir)) (block_ptr b o) in let φ = Testable (block_ptr b o) in
      fsplit t $ move t (1 ∷ []) $
      use1 𝓛 (given φ (‵ token)) (fact_use 𝓤 φ (dealloc_token-Testable 𝓛 a (bits (lone R.mir)) (block_ptr b o)) (λ f. guard_i 𝓤 φ (sem 𝓛 token) f)) $
      learn t (λ testable. move t (1 ∷ 0 ∷ []) $ fjoin t $ some b o x refl refl testable)

module _ {M : Type 1} {𝓤 : Ura M} {𝓛 : Logic 𝓤} {K : Type 0} {Γ : List (Item 𝓤)} {G : Goal 𝓤 𝓛.H} where
  pub device_out : K → (d : Device.Denot) (vs : List Val)
      → ((h : Val) → d.at ≡ null_ptr → d.held ≡ None → vs ≡ both (ptr_val null_ptr) h ∷ [] → Good (layout Z) h → Seq K 𝓛 (‵ (Z.own_val d.alloc (h ∷ [])) ∷ Γ) G)
      → ((b o : ℕ) (h : Val) (x : R.Denot) → d.at ≡ block_ptr b o → d.held ≡ Some x → vs ≡ both (vptr b o) h ∷ [] → Good (layout Z) h → Testable (block_ptr b o)
      → Seq K 𝓛 (‵ (box_owns (ghosts.dealloc_token d.alloc) R (block_ptr b o) x) ∷ ‵ (Z.own_val d.alloc (h ∷ [])) ∷ Γ) G)
      → Seq K 𝓛 (‵ (Device.own_val d vs) ∷ Γ) G
  device_out t d vs none some =
      fsplit t $ fpick t (λ vss. fsplit t $ feq_l t (λ whole. fsplit t $ feq_l t (λ first. fsplit t $ handle_tells of_heap t d.alloc vss.1.0 (λ h second fits.
      let told = λ (q : Ptr) (at_is : d.at ≡ q). whole ∙ (λ i. vstruct (of_list (first i ++ (second i ++ []))) ∷ []) ∙ ap
      (λ (p : Ptr). both (ptr_val p) h ∷ []) at_is in
      -- [the handle; nothing; what is held]
      move t (1 ∷ []) $ drop t $ move t (1 ∷ []) $ by_pointer t d.alloc d.at d.held
      (λ at_is held_is. none h at_is held_is (told null_ptr at_is) fits)
      (λ b o x at_is held_is testable. some b o h x at_is held_is (told (block_ptr b o) at_is) fits testable)))))

  pub device_in : K → (b o : ℕ) (h : Val) (a : Global) (x : R.Denot)
      → Step K 𝓛 (‵ (Device.own_val (record { at = block_ptr b o; alloc = a; held = Some x }) (both (vptr b o) h ∷ [])) ∷ Γ) G
      (‵ (box_owns (ghosts.dealloc_token a) R (block_ptr b o) x) ∷ ‵ (Z.own_val a (h ∷ [])) ∷ Γ) G
  device_in t b o h a x = step (λ next.
      nothing t $ move t (2 ∷ 0 ∷ []) $ fjoin t $ feq_i t (List Val) (vptr b o ∷ []) _ refl $ fjoin t $ feq_i t (List Val) (both (vptr b o) h ∷ []) _ refl $
      fjoin t $
      fpack t (Valss (RawPtr ∷ Z
      ∷ [])) (within (shape device.the_type) (to device.the_type (record { at = block_ptr b o; alloc = a; held = Some x })) (both (vptr b o) h
      ∷ [])) (vptr b o ∷ [], (h ∷ [], tt)) $ fjoin t $ next)

  pub device_null : K → (h : Val) (a : Global)
      → Step K 𝓛 (‵ (Device.own_val (record { at = null_ptr; alloc = a; held = None }) (both (ptr_val null_ptr) h ∷ [])) ∷ Γ) G (‵ (Z.own_val a (h ∷ [])) ∷ Γ) G
  device_null t h a = step (λ next.
      nothing t $ nothing t $ move t (2 ∷ 0 ∷ []) $ fjoin t $ feq_i t (List Val) (ptr_val null_ptr ∷ []) _ refl $ fjoin t $
      feq_i t (List Val) (both (ptr_val null_ptr) h ∷ []) _ refl $ fjoin t $
      fpack t (Valss (RawPtr ∷ Z
      ∷ [])) (within (shape device.the_type) (to device.the_type (record { at = null_ptr; alloc = a; held = None })) (both (ptr_val null_ptr) h
      ∷ [])) (ptr_val null_ptr ∷ [], (h ∷ [], tt)) $ fjoin t $ next)
