use Rattle.std.specs.Prelude.{IfOk}
use Rattle.std.proofs.Common.{◌≡◌, [], ◌∷◌, ◌++◌, ℕ, refl, MutBor}
use Rattle.std.proofs.raw_atomic.Walks.{proved}
use base.Fraction.{full_share}
use base.FractionLaws.{common}
use base.Logic.{id⊢, emp, wand, sep, apply∗}
use base.Fml.{Lft, Incl, ftrue, flft, fdead}
use mir.Syntax.{named, mut, ty_ref, ty_unit}
use mir.Val.{vptr}
use contract.Monad.{fact, fact_i}
use contract.Running.{tables}
use contract.BorrowLft.{⊑_meet, ⊑_refl, meet_⊑_left, meet_⊑_right}
use types.Kit.{‵, raw, ◌⊛◌, some, later, ◌$◌, ◌∵◌, !, qed, done, move, keep, use0, use1, use2, use3, split, join, fsplit, pick, await, suffices, frame, group}
use types.Tokens.{lft_new, lft_end, lft-common}
use types.Part.{agg}
use types.Run.{enter, addr, stop, no_more, and_then, returns}
use types.ByLocal.{alloc_all, pass_all, free_all, look_at, get, through, sets, lands_as}
use denote.FnPtr.{vt_lit}
use denote.Lend.{lends_again, comes_back, LentAgain}
use denote.Ref.{MutRef, mut_vals, mut_Tells, mut_hides}
use denote.Param.Table.{MutAny, Includes-none}
use denote.Param.Dyn.{wide_val, table_at}
use denote.Signature.{plain, named_lft}
use denote.Steps.{nothing, heard, peeks}
use denote.Triple.Call.{calls_at}
use denote.Triple.Clauses.{lasts}
use denote.Triple.Spec.{triple_of}
use denote.Triple.Walked.{Stays, stay_ref, Goes-ref, ends_at}
use denote.Triple.Table.{framed}
use borrow.Pointer.Hide.{hide_mut}
use denote.Laws.{Is, shows}
use Rattle.pp_macros.specs.inner.Defined.{names_in}
use Rattle.pp_macros.specs.inner.Nesting.{AreKnown}
use Rattle.pp_macros.specs.inner.Reader.{of_source}
use Rattle.pp_macros.specs.inner.CallTurns.{TurnsOrRefuses, TakenHoldsOrdinary}
use Rattle.pp_rs.specs.contracts.pp.preprocessor_step.step_source as f
use Rattle.pp_rs.proofs.pp.preprocessor_step.step_source.Statement.{statement}
use Rattle.pp_rs.proofs.pp.preprocessor_step.step_source.Code as code
use Rattle.pp_directives.specs.contracts.directives.DirectiveProcessor.{the_row as source_row}
use Rattle.pp_macros.specs.contracts.macro_processor.MacroProcessor.{the_row as P}
use Rattle.pp_macros.specs.contracts.calls.Taken.{the_row as token_row}
use Rattle.pp_macros.specs.contracts.step.PlacedExit.{the_row as exit_row}
use Rattle.pp_macros.proofs.calls.Taken.TheLaws.{the_row_laws as token_laws}
use Rattle.pp_macros.proofs.step.PlacedExit.TheLaws.{the_row_laws as exit_laws}
use Rattle.std.specs.contracts.result.Result.{the_row as result_row}
use Rattle.std.proofs.result.Result.TheLaws.{the_row_laws as result_laws}
use Rattle.pp_macros.specs.contracts.macro_processor.MacroProcessor.step as g
use Rattle.pp_macros.proofs.macro_processor.MacroProcessor.step.Met.{met}
use Rattle.pp_rs.proofs.pp.preprocessor_step.step_source.Object-1 as object
use Rattle.pp_rs.proofs.pp.preprocessor_step.step_source.OwnLists as lists
use Rattle.pp_rs.proofs.pp.preprocessor_step.step_source.Hidden as hidden

abbrev row : Stays f.ended.signature.params f.ended.kept
row = (stay_ref (0 ∷ []) tt (plain (λ _. P)), (stay_ref (1 ∷ []) tt (plain (λ κs. source_row (named_lft 3 2 tt κs))), tt))

pub step_source_spec : {M : Type 1} → statement M
step_source_spec 𝓤 𝓛 𝓜 𝓡 wired =
    let c = f.clauses 𝓛 𝓜.mem 𝓡.returns in
    proved 𝓛 f.ended row c 𝓜 𝓡 (Goes-ref 𝓛 3 0 tt (plain (λ _. P)), (Goes-ref 𝓛 3 1 tt (plain (λ κs. source_row (named_lft 3 2 tt κs))), tt))
    f.Key.name code.function (code.unfolded 𝓤 𝓛.H 𝓜 𝓡 wired)
    (λ κs. (mut_vals, (mut_vals, tt))) (λ κs. (
      mut_Tells (named 0) κs.0 P,
      (mut_Tells (named 1) κs.1.0 (source_row (named_lft 3 2 tt κs)), tt),
    )) (λ κs qs bounds a _ are.
    let κp = κs.0 in let κ = κs.1.0 in let κ₁ = κs.1.1.0 in let qp = qs.0 in let q = qs.1.0 in let q₁ = qs.1.1.0 in
    let p = a.0 in let r = a.1.0 in let b = r.ref_ptr.0 in let o = r.ref_ptr.1 in
    let R = source_row (named_lft 3 2 tt κs) in let O = result_row token_row exit_row in
    let T : object.Ghosts = (lists.own-1, lists.lawful-own-1) in let i = lists.at-1-1 (κ₁, tt) in
    let RefP = λ (κ' : Lft) (x : MutBor P.Denot). (MutRef (named 0) κ' P).own_val x (mut_vals p) in
    let Ref = λ (κ' : Lft) (x : MutBor R.Denot). (MutRef (named 0) κ' R).own_val x (mut_vals r) in
    let Obj = λ (κ' : Lft). MutAny object.name (ty_ref (named 1) mut ty_unit) object.slots lists.own-1 (named 1) κ' in
    qed 𝓛 (((‵ (flft κp qp) ⊛ ‵ (flft κ q) ⊛ ‵ (flft κ₁ q₁) ⊛ ‵ ftrue) ⊛ ‵ (RefP κp p) ⊛ ‵ (Ref κ r) ⊛ ‵ ftrue) ∷ (raw (fact 𝓤 (p.now.below ≡ [])) ⊛ raw (fact 𝓤 (AreKnown (names_in r.now.definitions) p.now))) ∷ []) ∵
    move ! (1 ∷ []) $ split ! $ heard ! _ (λ alone. heard ! _ (λ known. nothing ! $ move ! (1 ∷ []) $
    split ! $ split ! $ move ! (1 ∷ []) $ split ! $ move ! (1 ∷ []) $ split ! $ move ! (4 ∷ []) $ split ! $ move ! (1 ∷ []) $ split ! $ keep !
    (0 ∷ 2 ∷ 3 ∷ 5 ∷ 6 ∷ []) $
    enter ! _ _ _ _ _ $ alloc_all ! (λ l. pass_all ! refl ((tt, tt), ((tt, tt), tt)) $
    -- [source; processor; the tokens of the source's borrow, of the source, of the processor]
    sets ! (addr ! (through ! refl (stop !))) refl (tt, tt) $
    sets ! (addr ! (through ! refl (stop !))) refl (tt, tt) $
    sets ! (agg ! (and_then ! (get ! refl) (and_then ! (vt_lit !) (no_more !)))) refl (tt, (tt, (tt, tt))) $
    lft_new ! tt (λ β. move ! (2 ∷ 5 ∷ []) $
    use2 𝓛 (later (some (λ (δ : ℕ). ‵ (RefP (β ∷ []) (record p { ghost_name = δ })) ⊛ ‵
    (LentAgain P κp (β ∷ []) qp p.ghost_name p.ref_ptr.0 p.ref_ptr.1 δ p.now))))
    (lends_again 𝓛 P (named 0) κp (β ∷ []) qp p.ghost_name p.ref_ptr.0 p.ref_ptr.1 (named 0) p.now) $ await ! tt $ pick ! (λ δp. split ! $
    -- [the processor's loan; what its lender keeps; the token of β; source; the tokens of the source's borrow, of the source]
    lft_new ! tt (λ α. move ! (4 ∷ 6 ∷ []) $
    let κ' = κ₁ ++ (α ∷ []) in let share = (common q₁ full_share).0 in
    use2 𝓛 (later (some (λ (δ : ℕ). ‵ (Ref κ' (record r { ghost_name = δ })) ⊛ ‵ (LentAgain R κ κ' q r.ghost_name b o δ r.now))))
    (lends_again 𝓛 R (named 1) κ κ' q r.ghost_name b o (named 1) r.now) $ await ! tt $ pick ! (λ δ. split ! $
    let x : MutBor R.Denot = record r { ghost_name = δ } in let w = wide_val r.ref_ptr (table_at R (object.slots (lists.entry-1-1 (κ₁, tt)).2)) in
    let long : Incl κ' (κ' ++ R.lives) = ⊑_meet κ' κ' R.lives (⊑_refl κ') (lists.lasts-1-1 (κ₁, tt) κ' (meet_⊑_left κ₁ (α ∷ []))) in
    use1 𝓛 (‵ ((Obj κ').own_val (mut_hides i x) (w ∷ []))) (hide_mut 𝓛 object.name (ty_ref (named 1) mut ty_unit) object.slots lists.own-1
    (named 1) κ' i long x (vptr b o)) $
    -- [the object; what the source's lender keeps; the token of α; the processor's loan; what its lender keeps; the token of β; that of the borrow]
    let Both = sep 𝓤 (𝓛.A.lft κ₁ q₁) (𝓛.A.lft (α ∷ []) full_share) in
    move ! (6 ∷ 2 ∷ []) $ use2 𝓛 (‵ (flft κ' share) ⊛ raw (wand 𝓤 (𝓛.A.lft κ' share) Both)) (lft-common 𝓛 κ₁ (α ∷ []) q₁ full_share) $ split ! $
    -- [the token of κ'; its way back; the object; the source's lender; the processor's loan; its lender; the token of β]
    let G = triple_of 𝓛 (g.signature T) (g.spec T 𝓛 𝓜.mem 𝓡.returns) in
    let z : G.Ghost = (
      (
        (β ∷ [], (κ', tt)),
        (full_share, (share, tt)),
        tt,
        (record p { ghost_name = δp }, (mut_hides i x, tt)),
        (mut_vals p, (w ∷ [], tt)),
      ),
      tt,
    ) in
    move ! (2 ∷ []) $ nothing ! $ move ! (1 ∷ 0 ∷ []) $ join ! $ move ! (4 ∷ 0 ∷ []) $ join ! $
    nothing ! $ move ! (2 ∷ 0 ∷ []) $ join ! $ move ! (5 ∷ 0 ∷ []) $ join ! $ join ! $
    use0 𝓛 (raw (fact 𝓤 (AreKnown (names_in r.now.definitions) p.now))) (fact_i 𝓤 (AreKnown (names_in r.now.definitions) p.now) (emp 𝓤) known) $
    use0 𝓛 (raw (fact 𝓤 (p.now.below ≡ []))) (fact_i 𝓤 (p.now.below ≡ []) (emp 𝓤) alone) $ join ! $
    move ! (1 ∷ 0 ∷ []) $ use2 𝓛 (raw (G.pre z)) (id⊢ 𝓤 _) $
    calls_at ! (framed 𝓤 𝓛.H 𝓜 (tables 𝓤 𝓛.H 𝓜 𝓡 𝓡.env)) G
    (met 𝓤 𝓛 𝓜 𝓡 (code.calls-pp_macros::macro_processor::MacroProcessor::step 𝓡.env wired) T (Includes-none lists.own-1) (hidden.met-1 𝓤 𝓛 𝓜 𝓡 wired)) z
    (and_then ! (get ! refl) (and_then ! (get ! refl) (no_more !))) (λ v.
    use1 𝓛 (later (some (λ (u : O.Denot). ((‵ (flft (β ∷ []) full_share) ⊛ ‵ (flft κ' share) ⊛ ‵ ftrue) ⊛ ‵ (O.own_val u (v ∷ []))) ⊛
    some (λ (ws : P.Denot × (R.Denot × Unit {0})). ‵ (lasts (g.ended T) z.0.0 z.0.3 ws) ⊛
    (raw (fact 𝓤 (TurnsOrRefuses p.now.here (of_source r.now) u ws.0.here (of_source ws.1.0))) ⊛ raw (fact 𝓤 (ws.0.below ≡ p.now.below)) ⊛ raw (fact 𝓤 (IfOk u TakenHoldsOrdinary))))))) (id⊢ 𝓤 _) $
    await ! tt $ pick ! (λ u. split ! $ split ! $ split ! $ move ! (1 ∷ []) $ split ! $
    -- [the token of κ'; nothing; the token of β; the result; the ensures; the way back; the source's lender; the processor's]
    move ! (0 ∷ 5 ∷ []) $ use2 𝓛 (‵ (flft κ₁ q₁) ⊛ ‵ (flft (α ∷ []) full_share)) (apply∗ 𝓤 (𝓛.A.lft κ' share) Both) $ split ! $
    move ! (1 ∷ []) $ lft_end ! tt $ use1 𝓛 (‵ (fdead κ')) (𝓛.lfts.dead-incl κ' (α ∷ []) (meet_⊑_right κ₁ (α ∷ []))) $
    move ! (3 ∷ []) $ lft_end ! tt $
    -- [β is over; κ' is over; the token of the borrow; nothing; the result; the ensures; the source's lender; the processor's]
    move ! (4 ∷ []) $ peeks ! O (Is O) (shows 𝓛 O) u (v ∷ []) (λ is. lands_as ! refl refl
    (((result_laws token_row exit_row token_laws exit_laws).lawful 𝓛).typed u _ is).0 $
    move ! (5 ∷ []) $ pick ! (λ ws. split ! $ move ! (1 ∷ []) $ split ! $ heard ! _ (λ turns. split ! $ heard ! _ (λ below. heard ! _ (λ holds. fsplit ! $ fsplit ! $
    -- [the processor's last value; its loan; the source's; the result; β is over; κ' is over; the token of the borrow; nothing; the
    -- source's lender; the processor's]
    move ! (4 ∷ 9 ∷ 0 ∷ []) $ use3 𝓛 (later (‵ (RefP κp (record p { now = ws.0 })) ⊛ ‵ (flft κp qp)))
    (comes_back 𝓛 P (named 0) κp (β ∷ []) qp p.ghost_name p.ref_ptr.0 p.ref_ptr.1 δp p.now ws.0) $ await ! tt $ split ! $
    -- [processor; its token; its loan; the source's last value; the result; κ' is over; the token of the borrow; nothing; the source's lender]
    move ! (3 ∷ []) $ fsplit ! $ fsplit ! $ move ! (7 ∷ 10 ∷ 0 ∷ []) $ use3 𝓛 (later (‵ (Ref κ (record r { now = ws.1.0 })) ⊛ ‵ (flft κ q)))
    (comes_back 𝓛 R (named 1) κ κ' q r.ghost_name b o δ r.now ws.1.0) $ await ! tt $ split ! $
    -- [source; its token; its loan; nothing; processor; its token; its loan; the result; the token of the borrow; nothing]
    returns ! (look_at ! 0 refl) $ free_all ! refl $ keep ! (0 ∷ 1 ∷ 4 ∷ 5 ∷ 7 ∷ 8 ∷ []) $
    suffices ! _ (ends_at 𝓛 f.ended row c ((κs, qs, bounds, a, (mut_vals p, (mut_vals r, tt))), tt) v u (ws.0, (ws.1.0, tt)) (tt, (tt, tt))) $
    nothing ! $ move ! (1 ∷ 0 ∷ []) $ join ! $ move ! (2 ∷ 0 ∷ []) $ join ! $
    nothing ! $ move ! (5 ∷ 0 ∷ []) $ join ! $ move ! (2 ∷ 0 ∷ []) $ join ! $ move ! (2 ∷ 0 ∷ []) $ join ! $
    group ! 3 $ frame ! $ use0 𝓛 (raw (fact 𝓤 (TurnsOrRefuses p.now.here (of_source r.now) u ws.0.here (of_source ws.1.0))))
    (fact_i 𝓤 (TurnsOrRefuses p.now.here (of_source r.now) u ws.0.here (of_source ws.1.0)) (emp 𝓤) turns) $ frame ! $
    use0 𝓛 (raw (fact 𝓤 (ws.0.below ≡ p.now.below))) (fact_i 𝓤 (ws.0.below ≡ p.now.below) (emp 𝓤) below) $ frame ! $
    use0 𝓛 (raw (fact 𝓤 (IfOk u TakenHoldsOrdinary))) (fact_i 𝓤 (IfOk u TakenHoldsOrdinary) (emp 𝓤) holds) $ done !)))))))))))))))
