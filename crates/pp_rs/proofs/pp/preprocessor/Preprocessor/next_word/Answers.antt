use Rattle.std.proofs.Common.{◌≡◌, ◌∙◌, Bool, true, false, refl, ap, sym, subst}
use Rattle.std.specs.Prelude.{not}
use Rattle.pp_macros.specs.inner.Idle.{is_idle}
use Rattle.pp_directives.specs.WordTokens.{word_token}
use Rattle.pp_model.specs.Painting.{read_in}
use Rattle.pp_directives.specs.inner.PlainText.{IsInText}
use Rattle.pp_rs.specs.Kept.{LastItem, Preprocessing, is_spent, rules_of}
use Rattle.pp_rs.proofs.runs.CallPlaceLemmas.{call_outside, text_kept}
use Rattle.pp_rs.proofs.runs.NextLemmas.{reached_first, reached_more, falls_more, less_more, some_items, token_fits, next_token}
use Rattle.pp_rs.proofs.runs.OpenWordLemmas.{bare_over, bare_would}
use Rattle.pp_rs.proofs.runs.PassedLemmas.{newline_over, word_over, passed_pauses, idle_call}
use Rattle.pp_rs.proofs.pp.preprocessor.Preprocessor.next_word.Goals as goal

none_open : {Z : Type 0} (idle : Bool) → idle ≡ true → not idle ≡ true → Z
none_open true is some = cc
none_open false is some = cc

pub words-init : goal.words-init
words-init c =
    let fresh = ap (λ (p : Preprocessing). p.spent) c.self.view_is ∙ c.requires.unspent in
    record {
      unspent = fresh;
      placed = ap (λ (p : Preprocessing). p.place) c.self.view_is;
      ruled = ap (λ (p : Preprocessing). p.rules) c.self.view_is;
      alone = c.self.invariant.1;
      idle = ap (λ (p : Preprocessing). is_idle p.expander) c.self.view_is ∙ c.requires.idle;
      text = subst (λ (p : Preprocessing). IsInText p.source) (sym c.self.view_is) c.requires.text;
      reached = reached_first _ _ _ _ (ap (λ (p : Preprocessing). p.expander) c.self.view_is) (ap (λ (p : Preprocessing). p.source) c.self.view_is) (c.self.invariant.0 fresh);
    }

pub next_word-requires : goal.next_word-requires
next_word-requires c = c.words.invariant.text

pub pass_newline-requires : goal.pass_newline-requires
pass_newline-requires c = c.next_word.ensures.stays

pub words-preserved : goal.words-preserved
words-preserved c =
    let step = rw (c.in-None.ensures.gives) at (c.if-not-pass_newline.ensures.pauses) in
    record {
      unspent = c.words.invariant.unspent;
      placed = c.words.invariant.placed;
      ruled = c.words.invariant.ruled;
      alone = c.words.invariant.alone;
      idle = c.words.invariant.idle;
      text = c.pass_newline.ensures.stays;
      reached = reached_more _ _ _ _ _ _ c.words.invariant.reached (newline_over _ _ _ c.words.invariant.idle step);
    }

pub words-smaller : goal.words-smaller
words-smaller c =
    let step = rw (c.in-None.ensures.gives) at (c.if-not-pass_newline.ensures.pauses) in
    falls_more _ _ _ _ _ _ c.words.invariant.reached (newline_over _ _ _ c.words.invariant.idle step)

-- a word that is given
pub invariant_of-self : goal.invariant_of-self
invariant_of-self c = (
  λ e.
      let takes = rw c.in-Some-default-None.field-0-1-is at c.in-Some-default-None.ensures.gives in
      token_fits _ _ _ _ _ _ c.words.invariant.reached (read_in _ (word_token c.in-Some-default-None.word))
      (word_over _ _ _ (word_token c.in-Some-default-None.word) c.words.invariant.idle takes.step takes.does),
  c.words.invariant.alone,
  λ _. record { idle = c.words.invariant.idle; text = c.next_word.ensures.stays; unspent = c.words.invariant.unspent },
)

pub returns-in-Some-default-None-clause-gives : goal.returns-in-Some-default-None-clause-gives
returns-in-Some-default-None-clause-gives c =
    let takes = rw c.in-Some-default-None.field-0-1-is at c.in-Some-default-None.ensures.gives in
    let set = rw (c.text.ensures, c.next_word.ensures.text) at c.set_text.ensures in
    record {
      next = next_token _ _ _ _ _ _ c.words.invariant.reached c.args.self.now c.requires.unspent refl refl c.words.invariant.ruled (read_in _ (word_token c.in-Some-default-None.word))
          c.words.self-inside.spent c.words.self-inside.place c.set_text.new.self c.words.self-inside.name_call c.words.invariant.unspent c.words.invariant.placed set
          (idle_call c.words.self-inside.expander.here _ _ c.words.invariant.idle)
          (word_over _ _ _ (word_token c.in-Some-default-None.word) c.words.invariant.idle takes.step takes.does) takes.holds;
      text = text_kept _ ∙ ap (λ (o : LastItem). o.text) c.set_text.ensures ∙ c.text.ensures;
      call = call_outside _ c.words.invariant.idle (ap (λ (o : LastItem). o.call) c.set_text.ensures);
      plain = record { no_hash = takes.no_hash; ascii = takes.ascii };
      reads = record { idle = c.words.invariant.idle; text = c.next_word.ensures.stays; unspent = c.words.invariant.unspent };
    }

-- a macro that opens
pub open_numbered-requires : goal.open_numbered-requires
open_numbered-requires c =
    let takes = rw c.in-Some-default-Some.field-0-1-is at c.in-Some-default-Some.ensures.gives in
    rw c.definitions-definitions.ensures (c.in-Some-default-Some.word.spelling.now, takes.does.1)

pub invariant_of-self-in-Ok : goal.invariant_of-self-in-Ok
invariant_of-self-in-Ok c = (
  λ e.
      let takes = rw c.in-Some-default-Some.field-0-1-is at c.in-Some-default-Some.ensures.gives in
      let opens = rw (c.definitions-definitions.ensures, c.text-text.ensures, c.next_word.ensures.text) at c.in-Ok.ensures.opens in
      let on = reached_more _ _ _ _ _ _ c.words.invariant.reached (bare_over _ _ _ _ _ c.words.invariant.idle takes _ opens) in
      (on.fit, on.reported),
  c.open_numbered.ensures.below ∙ c.words.invariant.alone,
  λ e. cc,
)

pub returns-in-Ok-clause-gives : goal.returns-in-Ok-clause-gives
returns-in-Ok-clause-gives c =
    let takes = rw c.in-Some-default-Some.field-0-1-is at c.in-Some-default-Some.ensures.gives in
    let opens = rw (c.definitions-definitions.ensures, c.text-text.ensures, c.next_word.ensures.text) at c.in-Ok.ensures.opens in
    let turns = bare_over _ _ _ _ _ c.words.invariant.idle takes _ opens in
    record {
      passed = passed_pauses c.args.self.now _ _ _ _ _ _ _ (reached_more _ _ _ _ _ _ c.words.invariant.reached turns) c.requires.unspent
          c.words.invariant.unspent c.words.invariant.placed c.words.invariant.ruled;
      less_left = λ _. less_more _ _ _ _ _ _ c.words.invariant.reached c.args.self.now c.requires.unspent refl refl c.words.invariant.ruled _ _ _ _ c.words.invariant.unspent turns;
    }

-- no memory to open it
pub invariant_of-self-in-Err : goal.invariant_of-self-in-Err
invariant_of-self-in-Err c = (λ e. cc, c.open_numbered.ensures.below ∙ c.words.invariant.alone, λ e. cc)

pub returns-in-Err-clause-spent : goal.returns-in-Err-clause-spent
unfolding is_spent
returns-in-Err-clause-spent c = refl

pub returns-in-Err-clause-some_left : goal.returns-in-Err-clause-some_left
returns-in-Err-clause-some_left c =
    let takes = rw c.in-Some-default-Some.field-0-1-is at c.in-Some-default-Some.ensures.gives in
    some_items _ _ _ _ _ _ c.words.invariant.reached c.args.self.now c.requires.unspent refl refl c.words.invariant.ruled
    (bare_would _ _ _ _ _ c.words.invariant.idle takes).1

-- nothing else is a word
pub returns-then-not-pass_newline-clause-gives : goal.returns-then-not-pass_newline-clause-gives
returns-then-not-pass_newline-clause-gives c =
    rw (c.if-not-pass_newline.ensures.pauses, c.in-None.ensures.gives) (record {
      passed = passed_pauses c.args.self.now _ _ _ _ _ _ _ c.words.invariant.reached c.requires.unspent c.words.invariant.unspent c.words.invariant.placed
          c.words.invariant.ruled;
      less_left = λ some. none_open _ c.words.invariant.idle some;
    })

pub returns-in-Some-default-None-clause-rules : goal.returns-in-Some-default-None-clause-rules
unfolding rules_of
returns-in-Some-default-None-clause-rules c = c.words.invariant.ruled

pub returns-in-Ok-clause-rules : goal.returns-in-Ok-clause-rules
unfolding rules_of
returns-in-Ok-clause-rules c = c.words.invariant.ruled

pub returns-in-Err-clause-rules : goal.returns-in-Err-clause-rules
unfolding rules_of
returns-in-Err-clause-rules c = c.words.invariant.ruled

pub returns-then-not-pass_newline-clause-rules : goal.returns-then-not-pass_newline-clause-rules
unfolding rules_of
returns-then-not-pass_newline-clause-rules c = c.words.invariant.ruled
