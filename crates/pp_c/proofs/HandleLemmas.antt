-- The machine value of a `Stream`. Assumes `Logic`.
use Rattle.std.proofs.Common.{◌≡◌, ℕ, List, [], ◌∷◌, ◌++◌, refl, ap, ◌∙◌}
use Rattle.std.specs.Prelude.{Option, None, Some}
use seplogic.Ra.Ura.{Ura}
use mir.Val.{Val, vstruct, vcons, vnil, of_list}
use base.Logic.{SProp, ent, via, snd∗, never, fst∗, guard, guard_i}
use base.Fraction.{full_share}
use contract.Monad.{fact_use}
use types.Logic.{Logic, sem}
use types.Kit.{Item, Goal, Seq, Step, step, ‵, given, ◌$◌, drop, fsplit, fjoin, fpick, fpack, feq_i, feq_l, use1, learn}
use denote.RattleType.{Valss}
use denote.Builtin.{RawPtr}
use denote.Memory.{lone}
use denote.RawPtr.{Ptr, block_ptr, null_ptr, ptr_val, Testable, lies_at, in_a_block}
use denote.Steps.{nothing}
use denote.Struct.Struct.{within}
use denote.Struct.Owning.{shape}
use mir.Raw.{raw as bare}
use Rattle.std_alloc.specs.Box.Ownership.{box_owns}
use Rattle.std.specs.contracts.impls.GlobalAllocator.TheImpl.{ghosts}
use Rattle.std.specs.declared.alloc.Global.{Global}
use Rattle.std.proofs.GlobalToken.{dealloc_token-Testable}
use Rattle.pp_c.specs.Handles.{heap, kept_at}
use Rattle.pp_c.specs.Streams.{Streaming}
use Rattle.pp_c.specs.contracts.stream.state.State.{the_row as R}
use Rattle.pp_c.specs.contracts.stream.handle.Stream.{the_row as Stream, the_type}

abbrev pub held : Ptr → Val
held p = vstruct (vcons (ptr_val p) vnil)

module _ {M : Type 1} {𝓤 : Ura M} {𝓛 : Logic 𝓤} {K : Type 0} {Γ : List (Item 𝓤)} {G : Goal 𝓤 𝓛.H} where
  pub stream_in : K → (p : Ptr) (k : Option Streaming)
      → Step K 𝓛 (‵ (Stream.own_val (record { state = p; kept = k }) (held p ∷ [])) ∷ Γ) G (‵ (kept_at p k) ∷ Γ) G
  stream_in t p k = step (λ s. let v : Val = held p in
      nothing t $ feq_i t (List Val) (ptr_val p ∷ []) (ptr_val p ∷ []) refl $ fjoin t $ feq_i t (List Val) (v ∷ []) (v ∷ []) refl $ fjoin t $
      fpack t (Valss (RawPtr ∷ [])) (within (shape the_type) (p, tt) (v ∷ [])) (ptr_val p ∷ [], tt) $ fjoin t $ s)

  pub stream_out : K → (d : Stream.Denot) (vs : List Val)
      → (vs ≡ held d.state ∷ [] → Seq K 𝓛 (‵ (kept_at d.state d.kept) ∷ Γ) G)
      → Seq K 𝓛 (‵ (Stream.own_val d vs) ∷ Γ) G
  stream_out t d vs k =
      fsplit t $ fpick t (λ vss. fsplit t $ feq_l t (λ ev. fsplit t $ feq_l t (λ ep. drop t $
      k (ev ∙ ap (λ (ws : List Val). vstruct (of_list (ws ++ [])) ∷ []) ep))))

module _ {M : Type 1} {𝓤 : Ura M} (𝓛 : Logic 𝓤) (a : Global) where
  abbrev Held : Ptr → Streaming → SProp 𝓤
  Held p x = sem 𝓛 (box_owns (ghosts.dealloc_token heap) R p x)

  tested : (p : Ptr) (x : Streaming) → ent 𝓤 (Held p x) (guard 𝓤 (Testable p) (Held p x))
  tested p x = let τ = bare (lone R.mir) in
      fact_use 𝓤 (Testable p) (via 𝓤 _ (snd∗ 𝓤 (sem 𝓛 (lies_at R full_share p x)) (sem 𝓛 (ghosts.dealloc_token a τ p))) (dealloc_token-Testable 𝓛 a τ p))
      (guard_i 𝓤 (Testable p) (Held p x))

module _ {M : Type 1} {𝓤 : Ura M} {𝓛 : Logic 𝓤} {K : Type 0} {Γ : List (Item 𝓤)} {G : Goal 𝓤 𝓛.H} where
  -- what is kept lies at null and is none, or is in a block, and its pointer may be compared with null
  pub either_kept : K → (a : Global) (p : Ptr) (k : Option Streaming) → (p ≡ null_ptr → k ≡ None → Seq K 𝓛 Γ G)
      → ((b o : ℕ) (x : Streaming) → p ≡ block_ptr b o → k ≡ Some x → Testable (block_ptr b o) → Seq K 𝓛 (‵ (box_owns (ghosts.dealloc_token heap) R (block_ptr b o) x) ∷ Γ) G)
      → Seq K 𝓛 (‵ (kept_at p k) ∷ Γ) G
  either_kept t a p None none one = fpick t (λ e. drop t $ none e refl)
  either_kept t a p (Some x) none one =
      in_a_block t p (λ q. box_owns (ghosts.dealloc_token heap) R q x) (fst∗ 𝓤 (never 𝓤) (sem 𝓛 (ghosts.dealloc_token a (bare (lone R.mir)) null_ptr))) (λ b o e.
      use1 𝓛 (given (Testable (block_ptr b o)) (‵ (box_owns (ghosts.dealloc_token heap) R (block_ptr b o) x))) (tested 𝓛 a (block_ptr b o) x) $ learn t (λ may. one b o x e refl may))
