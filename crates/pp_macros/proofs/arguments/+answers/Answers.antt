use Rattle.std.proofs.Common.{inl, ◌≡◌, ◌≢◌, ◌+◌, ◌-◌, ◌≤◌, get_or, drop, refl, arith, ◌∙◌, sym, ap, subst, rules, List, [], length-append, ◌∷◌, ◌++◌, length}
use Rattle.std.specs.Prelude.{Ok, Err, None}
use Rattle.pp_model.specs.Calls.{arguments_of, misfit}
use Rattle.pp_macros.specs.declared.argument_lists.Part.{Part}
use Rattle.pp_model.specs.Emitting.{Alone, answers_at}
use Rattle.pp_model.specs.Names.{Name}
use Rattle.pp_macros.specs.inner.Expander.{Expander, Satisfies}
use Rattle.pp_macros.specs.inner.Defined.{meaning_of}
use Rattle.pp_model.specs.Places.{fault_in}
use Rattle.pp_macros.specs.inner.Finishing.{Finishes, site_at}
use Rattle.pp_macros.specs.inner.Reader.{Listing}
use Rattle.pp_macros.specs.inner.Frames.{names_of, outermost_frame_call}
use Rattle.pp_macros.specs.inner.Noting.{noted, noted_halt}
use Rattle.pp_macros.specs.inner.Nesting.{MacroProcessor, open_names}
use Rattle.pp_macros.specs.inner.Parts.{addition, list_of, lists_of}
use Rattle.std.proofs.lemmas.Result.{err_from_is_err_and}
use Rattle.pp_model.specs.Emitting.{first_failed, more, none}
use Rattle.pp_model.specs.inner.Emitting.{list_before}
use Rattle.pp_model.proofs.calls.CollectLemmas.{after_lists-before, after_items-end}
use Rattle.std.proofs.lemmas.List.{append-nil, drop_more, drop_all}
use Rattle.std.proofs.lemmas.List.Edits.{length-between}
use Rattle.std.proofs.lemmas.List.Elements.{All-append}
use Rattle.std.proofs.lemmas.Slice.{drop-put_mid}
use Rattle.pp_model.specs.declared.read.Read.{Read}
use Rattle.pp_macros.specs.Held.{HoldsOrdinary}
use Rattle.pp_macros.proofs.taking.AnswerLemmas.{noted_err, satisfies_exit, satisfies_exit_in, fault_of, finish_fault, finish_left, answers_each, of_call, satisfies_more, finishes_without, short_more, short_list}
use Rattle.pp_macros.proofs.taking.ListLeadsLemmas.{reached_start, reached_end, reached_fault, reached_call_fault, call_less, reached_call}
use Rattle.pp_macros.proofs.taking.GivingLemmas.{fault_comes, reached_last}
use Rattle.pp_macros.proofs.taking.PartLemmas.{AreLeft, added_is, left_within, left_first, left_rest, lists_more, in_order_push, part_has, part_all}
use Rattle.pp_macros.proofs.taking.PlainLemmas.{plain_alone, plain_short, plain_each, plain_are_short}
use Rattle.pp_macros.proofs.open_frames.ListKnownLemmas.{call_known, nested_known}
use Rattle.pp_macros.proofs.work.CallFallsLemmas.{call_free}
use Rattle.pp_macros.proofs.arguments.+answers.Goals as goal

pub expand_list-calls-init : goal.expand_list-calls-init
expand_list-calls-init t c =
    let none_added : addition c.args.items.now.items c.args.items.now.items ≡ [] = added_is c.args.items.now.items c.args.items.now.items [] (sym (append-nil c.args.items.now.items)) in
    record {
      keeps = sym (append-nil c.args.items.now.items) ∙ ap (λ (out : List Read). c.args.items.now.items ++ out) (sym none_added);
      reached = reached_start _ _ _ _ _ _ _ _ c.requires.start.idle c.requires.start.argument none_added;
      holds = c.requires.before;
      below = refl;
      none = c.requires.none;
      same = ap (λ (l : Listing). l.definitions) c.requires.start.argument;
    }

-- after a call nothing is held
pub expand_list-finish-requires : goal.expand_list-finish-requires
expand_list-finish-requires t c =
    let comes = rw (c.in-Some.is, c.next_call.ensures.below) at c.in_ok-call.ensures.comes in
    let on = reached_last _ _ _ _ _ _ _ c.args.items.now.items _ c.calls.invariant.keeps c.calls.invariant.reached _ _ _ _ comes in (
      omega arith,
      (
        call_free _ _ _ _ _ c.in-Some.call refl (inl comes.turns),
        (
          call_known 0 c.args.processor.now c.next_call.new.processor comes.last _ comes.list c.next_call.new.lexer c.args.scope.now.definitions.now
              c.in-Some.call on.reached.sound comes.turns (c.in_ok-call.ensures.same ∙ c.calls.invariant.same)
              (c.next_call.ensures.below ∙ c.calls.invariant.below) c.requires.known,
          c.in_ok-call.ensures.none,
        ),
      ),
    )

pub expand_list-calls-smaller : goal.expand_list-calls-smaller
expand_list-calls-smaller t c =
    let comes = rw (c.in-Some.is, c.next_call.ensures.below) at c.in_ok-call.ensures.comes in
    let on = reached_last _ _ _ _ _ _ _ c.args.items.now.items _ c.calls.invariant.keeps c.calls.invariant.reached _ _ _ _ comes in
    omega (
      arith,
      on.least,
      call_less _ _ _ _ _ _ _ _ on.reached _ _ c.in-Some.call comes.turns _
          (rw (c.next_call.ensures.below ∙ c.calls.invariant.below) at c.in_ok-finish.ensures.finishes),
    )

pub expand_list-calls-preserved : goal.expand_list-calls-preserved
expand_list-calls-preserved t c =
    let comes = rw (c.in-Some.is, c.next_call.ensures.below) at c.in_ok-call.ensures.comes in
    let on = reached_last _ _ _ _ _ _ _ c.args.items.now.items _ c.calls.invariant.keeps c.calls.invariant.reached _ _ _ _ comes in
    record {
      keeps = on.keeps;
      reached =
          rw (c.in_ok-finish.ensures.below, c.next_call.ensures.below) (reached_call _ _ _ _ _ _ _ _ on.reached _ _ c.in-Some.call comes.turns _
          (rw (c.next_call.ensures.below ∙ c.calls.invariant.below) at c.in_ok-finish.ensures.finishes));
      holds = c.in_ok-call.ensures.holds;
      below = c.in_ok-finish.ensures.below ∙ c.next_call.ensures.below ∙ c.calls.invariant.below;
      same = c.in_ok-call.ensures.same ∙ c.calls.invariant.same;
      none = c.in_ok-finish.ensures.none;
    }

pub expand_list-returns-clause-expands : goal.expand_list-returns-clause-expands
expand_list-returns-clause-expands t c =
    let comes = rw (c.in_default.is, c.next_call.ensures.below) at c.in_ok-call.ensures.comes in
    let on = reached_last _ _ _ _ _ _ _ c.args.items.now.items _ c.calls.invariant.keeps c.calls.invariant.reached _ _ _ _ comes in
    record {
      keeps = on.keeps;
      alone = reached_end _ _ _ _ _ _ _ _ on.reached _ _ comes.turns;
      least = omega (arith, on.reached.least);
      holds = c.in_ok-call.ensures.holds;
    }

pub expand_list-returns-in_err-call-clause-expands : goal.expand_list-returns-in_err-call-clause-expands
expand_list-returns-in_err-call-clause-expands t c =
    let e = err_from_is_err_and c.from_residual.result c.from_residual.ensures.1 in
    satisfies_exit_in _ _ (noted_halt c.next_call.new.fault) _ (noted_err _ _ _ e.1)
    (λ fault is.
    let found = fault_comes _ _ _ _ _ _ _ fault is (rw c.next_call.ensures.below at c.in_err-call.ensures.comes) in
    let on = reached_last _ _ _ _ _ _ _ c.args.items.now.items _ c.calls.invariant.keeps c.calls.invariant.reached _ _ _ _ found.0 in
    reached_fault _ _ _ _ _ _ _ _ on.reached _ _ fault found.0.turns found.1)

pub expand_list-returns-in_err-finish-clause-expands : goal.expand_list-returns-in_err-finish-clause-expands
expand_list-returns-in_err-finish-clause-expands t c =
    let e = err_from_is_err_and c.from_residual-in_err-finish.result c.from_residual-in_err-finish.ensures.1 in
    let comes = rw (c.in-Some.is, c.next_call.ensures.below) at c.in_ok-call.ensures.comes in
    let on = reached_last _ _ _ _ _ _ _ c.args.items.now.items _ c.calls.invariant.keeps c.calls.invariant.reached _ _ _ _ comes in
    let hidden = names_of c.args.processor.now.below in
    let finishes : Finishes c.args.levels c.args.scope.now.numbering c.args.scope.now.definitions.now hidden c.in-Some.call c.next_call.new.processor.here
    (Err (noted_halt c.finish.new.fault)) c.finish.new.processor.here =
    subst (λ (hidden : List Name). Finishes c.args.levels c.args.scope.now.numbering c.args.scope.now.definitions.now hidden c.in-Some.call c.next_call.new.processor.here
    (Err (noted_halt c.finish.new.fault)) c.finish.new.processor.here)
    (ap names_of (c.next_call.ensures.below ∙ c.calls.invariant.below)) c.in_err-finish.ensures.finishes in
    satisfies_exit_in _ _ (noted_halt c.finish.new.fault) _ (noted_err _ _ _ e.1)
    (λ fault is.
    let left = finish_left c.args.levels c.args.scope.now.numbering c.args.scope.now.definitions.now hidden c.in-Some.call c.next_call.new.processor.here
    c.finish.new.processor.here (noted_halt c.finish.new.fault) fault is finishes in
    subst (λ (m : Expander). Alone c.args.levels c.args.lexer.now.tokens c.args.scope.now.numbering (meaning_of c.args.scope.now.definitions.now) hidden
    (Err (fault_in (outermost_frame_call m.frames) fault))) (sym left)
    (reached_call_fault _ _ _ _ _ _ _ _ on.reached _ _ c.in-Some.call fault comes.turns
    (finish_fault c.args.levels c.args.scope.now.numbering c.args.scope.now.definitions.now hidden c.in-Some.call c.next_call.new.processor.here
    c.finish.new.processor.here (noted_halt c.finish.new.fault) fault is finishes)))

pub expand_argument-returns-then-are_plain-clause-expands : goal.expand_argument-returns-then-are_plain-clause-expands
expand_argument-returns-then-are_plain-clause-expands t c =
    let all_added = added_is c.args.items.now.items c.append.new.items.items c.args.tokens.now c.in_ok-append.ensures in
    record {
      keeps = rw all_added c.in_ok-append.ensures;
      alone = rw all_added (plain_alone c.args.levels c.args.scope.now.numbering c.args.scope.now.definitions.now (open_names c.args.processor.now) c.args.tokens.now
          (sym c.are_plain.ensures ∙ c.if-are_plain.true));
      least = rw all_added (plain_short c.args.levels c.args.scope.now.definitions.now (length c.args.tokens.now));
      holds = rw c.in_ok-append.ensures (All-append (λ (read : Read). HoldsOrdinary read.token.value) _ _ c.requires.before c.requires.ordinary);
    }

pub expand_parts-offset_bounds-tokens-part : goal.expand_parts-offset_bounds-tokens-part
expand_parts-offset_bounds-tokens-part t c =
    let part : Part = get_or c.args.parts.now c.loop-part.part-index (record { start = 0; end = 0 }) in
    let within = left_within c.args.tokens.now c.loop-part.tokens part _
    (rw (drop_more c.args.parts.now c.loop-part.part-index (record { start = 0; end = 0 }) (omega arith)) at c.loop-part.invariant.left) in
    omega (arith, within.0, within.1, c.loop-part.auto.tokens)

pub expand_parts-slice_bounds-argument-end : goal.expand_parts-slice_bounds-argument-end
expand_parts-slice_bounds-argument-end t c =
    let part : Part = get_or c.args.parts.now c.loop-part.part-index (record { start = 0; end = 0 }) in
    let within = left_within c.args.tokens.now c.loop-part.tokens part _
    (rw (drop_more c.args.parts.now c.loop-part.part-index (record { start = 0; end = 0 }) (omega arith)) at c.loop-part.invariant.left) in
    rw c.loop-part.auto.tokens within.1

pub expand_parts-expand_argument-requires : goal.expand_parts-expand_argument-requires
expand_parts-expand_argument-requires t c =
    let part : Part = get_or c.args.parts.now c.loop-part.part-index (record { start = 0; end = 0 }) in
    let same : list_of c.loop-part.tokens part ≡ list_of c.args.tokens.now part = left_first c.args.tokens.now c.loop-part.tokens part _
    (rw (drop_more c.args.parts.now c.loop-part.part-index (record { start = 0; end = 0 }) (omega arith)) at c.loop-part.invariant.left) in (
      omega arith,
      (
        rw same (part_all (λ (read : Read). HoldsOrdinary read.token.value) c.args.tokens.now part c.requires.holds),
        (c.loop-part.invariant.holds, (rw c.loop-part.invariant.same c.requires.free, (rw c.loop-part.invariant.same c.requires.known, c.loop-part.invariant.none))),
      ),
    )

pub expand_parts-returns-in_err-expand_argument-clause-expands : goal.expand_parts-returns-in_err-expand_argument-clause-expands
expand_parts-returns-in_err-expand_argument-clause-expands t c =
    let part : Part = get_or c.args.parts.now c.loop-part.part-index (record { start = 0; end = 0 }) in
    let here : drop c.loop-part.part-index c.args.parts.now ≡ part ∷ drop (c.loop-part.part-index + 1) c.args.parts.now
    = drop_more c.args.parts.now c.loop-part.part-index (record { start = 0; end = 0 }) (omega arith) in
    let same : list_of c.loop-part.tokens part ≡ list_of c.args.tokens.now part =
    left_first c.args.tokens.now c.loop-part.tokens part _ (rw here at c.loop-part.invariant.left) in
    let e = err_from_is_err_and c.from_residual-in_err-expand_argument.result c.from_residual-in_err-expand_argument.ensures.1 in
    satisfies_exit _ (noted_halt c.expand_argument.new.fault) _ (noted_err _ _ _ e.1)
    (λ fault is. record {
      each = c.loop-part.invariant.goes_on (Err fault) (rw here (first_failed (list_of c.args.tokens.now part) _ fault (Err fault)
          (rw (same, c.loop-part.invariant.same) at (fault_of (noted_halt c.expand_argument.new.fault) fault _ is c.in_err-expand_argument.ensures.expands)) refl));
      least = tt;
    })

pub expand_parts-loop-part-preserved : goal.expand_parts-loop-part-preserved
expand_parts-loop-part-preserved t c =
    let part : Part = get_or c.args.parts.now c.loop-part.part-index (record { start = 0; end = 0 }) in
    let here : drop c.loop-part.part-index c.args.parts.now ≡ part ∷ drop (c.loop-part.part-index + 1) c.args.parts.now
    = drop_more c.args.parts.now c.loop-part.part-index (record { start = 0; end = 0 }) (omega arith) in
    let left : AreLeft c.args.tokens.now c.loop-part.tokens (part ∷ drop (c.loop-part.part-index + 1) c.args.parts.now)
    = rw here at c.loop-part.invariant.left in
    let same : list_of c.loop-part.tokens part ≡ list_of c.args.tokens.now part = left_first c.args.tokens.now c.loop-part.tokens part _ left in
    let out = addition c.loop-part.items.items c.expand_argument.new.items.items in
    let put : c.push.new.self.items ≡ c.loop-part.expanded.items
    ++ record { start = length c.loop-part.items.items; end = length c.expand_argument.new.items.items } ∷ [] = search rules in
    let lists : lists_of c.expand_argument.new.items.items c.push.new.self.items ≡ lists_of c.loop-part.items.items c.loop-part.expanded.items ++ out ∷ []
    = lists_more c.loop-part.items.items c.expand_argument.new.items.items c.loop-part.expanded.items c.push.new.self.items
    c.loop-part.invariant.order c.in_ok-expand_argument.ensures.expands.keeps put in
    let longer : length c.loop-part.items.items ≤ length c.expand_argument.new.items.items
    = rw c.in_ok-expand_argument.ensures.expands.keeps (simp length-append (omega arith)) in
    let within = left_within c.args.tokens.now c.loop-part.tokens part _ left in
    record {
      goes_on = λ next h. rw (lists, ← after_lists-before (lists_of c.loop-part.items.items c.loop-part.expanded.items) out next)
          (c.loop-part.invariant.goes_on (list_before out next)
          (rw here (more (list_of c.args.tokens.now part) out _ next (list_before out next) (rw same at (rw c.loop-part.invariant.same at c.in_ok-expand_argument.ensures.expands.alone)) h refl)));
      short = λ n all. short_more _ (lists_of c.loop-part.items.items c.loop-part.expanded.items) _ out (c.loop-part.invariant.short n all)
          (short_list c.args.levels c.args.scope.now.definitions.now n (list_of c.args.tokens.now part) out
          (part_has (λ (list : List Read). length list ≤ n) c.args.tokens.now c.args.parts.now c.loop-part.part-index (record { start = 0; end = 0 }) (omega arith) all)
          (rw same at c.in_ok-expand_argument.ensures.expands.least)) lists;
      order = rw put (in_order_push 0 (length c.loop-part.items.items) (length c.expand_argument.new.items.items) c.loop-part.expanded.items _
          c.loop-part.invariant.order (omega arith) longer (omega arith));
      left = left_rest c.args.tokens.now c.loop-part.tokens part _ left _
          (drop-put_mid part.start (part.end - part.start) c.loop-part.tokens c.expand_argument.new.tokens part.end
          (omega (arith, within.0)) (omega (arith, within.0, within.1, c.loop-part.auto.tokens))
          (c.expand_argument.auto.tokens ∙ length-between c.loop-part.tokens part.start part.end (omega (arith, within.1, c.loop-part.auto.tokens))));
      holds = c.in_ok-expand_argument.ensures.expands.holds;
      same = c.expand_argument.ensures.same ∙ c.loop-part.invariant.same;
      none = c.in_ok-expand_argument.ensures.none;
    }

pub expand_parts-returns-clause-expands : goal.expand_parts-returns-clause-expands
expand_parts-returns-clause-expands t c = record {
  each = rw (c.new.ensures, ← after_items-end (lists_of c.loop-part.items.items c.loop-part.expanded.items))
      (c.loop-part.invariant.goes_on (Ok []) (rw (drop_all c.loop-part.part-index c.args.parts.now (omega arith)) (none (Ok []) refl)));
  least = λ n all. rw c.new.ensures (c.loop-part.invariant.short n all);
}

pub expand_arguments-returns-then-are_plain-clause-expands : goal.expand_arguments-returns-then-are_plain-clause-expands
expand_arguments-returns-then-are_plain-clause-expands t c = record {
  each = rw (c.new.ensures, ← c.into_parts-tokens.ensures.is)
      (plain_each c.args.levels c.args.scope.now.numbering c.args.scope.now.definitions.now (open_names c.args.processor.now) _ _ (rw c.deref.ensures.value at (sym c.are_plain.ensures ∙ c.if-are_plain.true)));
  least = rw (c.new.ensures, c.into_parts-tokens.ensures.is) (plain_are_short c.args.levels c.args.scope.now.definitions.now c.args.arguments);
}

pub expand_call-returns : goal.expand_call-returns
expand_call-returns t c =
    let left : c.take_tokens.new.self ≡ record c.args.call.now { tokens = [] } = c.take_tokens.ensures.left in
    let cut : c.in_ok-arguments.arguments ≡ arguments_of c.args.call.now.tokens =
    c.in_ok-arguments.ensures.cut ∙ ap arguments_of c.take_tokens.ensures.taken in
    let fits : misfit c.args.call.now.opened.definition.parameters (arguments_of c.args.call.now.tokens) ≡ None =
    let known : misfit c.parameters.result.now c.in_ok-arguments.arguments ≡ None = sym c.misfit.ensures ∙ c.in-None.is in
    rw (c.parameters.ensures, left, cut) at known in
    let some : c.args.levels ≢ 0 = λ e. omega (arith, e, c.if-levels-eq0.false) in
    let around = open_names c.arguments_of.new.processor in
    record {
      answers = subst (λ (p : MacroProcessor). Satisfies (noted c.expand_arguments.result c.expand_arguments.new.fault)
          (λ out. answers_at c.args.levels c.args.call.now.opened.definition (site_at c.args.call.now c.args.scope.now.numbering c.args.scope.now.definitions.now (open_names p)) out))
          c.arguments_of.ensures.same
          (satisfies_more (noted c.expand_arguments.result c.expand_arguments.new.fault) _ _ (answers_each c.args.levels c.args.scope.now.numbering c.args.scope.now.definitions.now around c.args.call.now some fits)
          (rw cut at c.expand_arguments.ensures.expands));
      least = of_call c.args.levels c.args.scope.now.numbering c.args.scope.now.definitions.now around c.args.call.now c.expand_arguments.result _ (rw cut at c.expand_arguments.ensures.expands);
      same = c.expand_arguments.ensures.same ∙ c.arguments_of.ensures.same;
      none = c.expand_arguments.ensures.none;
      left = left;
    }

-- an argument with a token that doesn't give itself
pub expand_argument-expand_list-ended-requires : goal.expand_argument-expand_list-ended-requires
expand_argument-expand_list-ended-requires t c = (omega arith, (record { idle = ap (λ (m : MacroProcessor). m.here) c.nest-around.ensures.is; argument = rw c.argument-lexer.ensures refl }, (c.requires.before, (nested_known _ c.args.processor.now c.nest-around.new.self c.nest-around.ensures.is c.requires.known, c.requires.none))))

pub finish-returns-in_err-expanded-clause-finishes : goal.finish-returns-in_err-expanded-clause-finishes
finish-returns-in_err-expanded-clause-finishes t c =
    let e = err_from_is_err_and c.from_residual.result c.from_residual.ensures.1 in
    finishes_without c.args.levels c.args.scope.now.numbering c.args.scope.now.definitions.now (names_of c.args.processor.now.below) c.args.call c.args.processor.now.here
    c.expand_call.new.processor.here _ (noted_halt c.expand_call.new.fault) (noted_err _ _ _ e.1) c.in_err-expanded.ensures.answers
    (ap (λ (m : MacroProcessor). m.here) c.in_err-expanded.ensures.same)

pub finish-returns-clause-finishes : goal.finish-returns-clause-finishes
finish-returns-clause-finishes t c = record {
  arguments = c.in_ok-expanded.expanded;
  answers = c.in_ok-expanded.ensures.answers;
  least = c.in_ok-expanded.ensures.least;
  opens = ap (λ (m : MacroProcessor). m.here) (rw (c.in_ok-expanded.ensures.same, c.in_ok-expanded.ensures.left) at c.in_ok-open_call.ensures.ok);
}
