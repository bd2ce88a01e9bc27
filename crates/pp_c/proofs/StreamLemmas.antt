-- Streams: where their calls have led.
use Rattle.std.proofs.Common.{◌≡◌, ◌∙◌, ℕ, List, [], ◌∷◌, ◌++◌, length, refl, ap, sym, Option, Some, None, arith, append_assoc, length-append}
use Rattle.std.proofs.lemmas.List.{append-nil, replicate-append-replicate}
use Rattle.std.proofs.Math.ListN.{replicate}
use Rattle.std.specs.Prelude.{false}
use Rattle.pp_macros.specs.LexerErrors.{lexer_errors_by}
use Rattle.pp_model.specs.Run.{Call, next, items_by}
use Rattle.pp_rs.specs.Comes.{start_by}
use Rattle.pp_rs.specs.Kept.{Preprocessing, Stands, is_spent, errors_left, rules_of}
use Rattle.pp_rs.specs.declared.rules.Rules.{Rules}
use Rattle.pp_c.specs.Preprocessed.{Given}
use Rattle.pp_c.specs.Streams.{Log, log_of, with_call, with_answers, Streaming, if_waiting, answers_read, HasMade, MakesCall, GivesAnswers}
use Rattle.pp_c.specs.inner.Batches.{Reads}
use Rattle.pp_c.specs.inner.Making.{GivesNext, Made}
use Rattle.pp_c.specs.inner.Making as made
use Rattle.pp_c.specs.inner.Reached.{Reached}
use Rattle.pp_c.proofs.MadeLemmas.{made_then, answers_by}

-- with more calls
reached_more : (rules : Rules) (source : List ℕ) (calls others : List Call) (answers later : List (Option Given)) (p q : Preprocessing)
    → Reached rules source calls answers p → Made p others later q → Reached rules source (calls ++ others) (answers ++ later) q
reached_more rules source calls others answers later p q h m = record {
  begun = h.begun;
  stands = h.stands;
  errors = h.errors;
  rules_are = h.rules_are;
  made = made_then h.begun p q calls others answers later h.made m;
}

-- what a stream has made, by where its calls have led
made_by : (log : Log) (stream : Streaming) (last : Preprocessing) → Reached log.rules log.source log.calls (answers_read log stream) last
    → (stream.ran_out ≡ None → stream.preprocessing ≡ last) → HasMade log stream
made_by log stream last h goes_on = record {
  are = answers_by log.rules log.source h.begun last log.calls (answers_read log stream) h.stands h.errors h.rules_are h.made;
  last = last;
  reached = h;
  goes_on = goes_on;
}

-- before the first call
pub nothing_made : (rules : Rules) (source : List ℕ) (stream : Streaming) → Stands stream.preprocessing (start_by rules (items_by rules source))
    → errors_left stream.preprocessing ≡ lexer_errors_by rules source → rules_of stream.preprocessing ≡ rules → stream.waiting ≡ None
    → HasMade (log_of rules source) stream
nothing_made rules source stream stands errors same none =
    made_by (log_of rules source) stream stream.preprocessing (record {
      begun = stream.preprocessing;
      stands = stands;
      errors = errors;
      rules_are = same;
      made = made.none stream.preprocessing stream.preprocessing [] (if_waiting stream.waiting) refl (ap if_waiting none) refl;
    }) (λ e. refl)

-- one more call
pub call_made : (call : Call) (old new : Streaming) → old.ran_out ≡ None → Made old.preprocessing (call ∷ []) [] new.preprocessing
    → new.waiting ≡ old.waiting → new.ran_out ≡ old.ran_out → new.is_bounded ≡ old.is_bounded → MakesCall call old new
call_made call old new ready m waiting ran_out bounded = record {
  made = λ log h.
      let here : Made h.last (call ∷ []) [] new.preprocessing = rw (h.goes_on ready) at m in
      let answers : answers_read log old ++ [] ≡ answers_read (with_call call log) new =
      append-nil (answers_read log old) ∙ ap (λ w. log.answers ++ if_waiting w) (sym waiting) in
      made_by (with_call call log) new new.preprocessing
      (rw answers at (reached_more log.rules log.source log.calls (call ∷ []) (answers_read log old) [] h.last new.preprocessing h.reached here)) (λ e. refl);
  waiting = waiting;
  ran_out = ran_out;
  bounded = bounded;
}

-- answers that were read
pub answers_given : (answers : List (Option Given)) (old new : Streaming) (last : Preprocessing) → old.ran_out ≡ None
    → Reads old.preprocessing old.waiting answers last new.waiting → (new.ran_out ≡ None → new.preprocessing ≡ last)
    → new.is_bounded ≡ old.is_bounded → GivesAnswers answers old new
answers_given answers old new last ready reads goes_on bounded = record {
  asked = length reads.more;
  count = omega (arith, ap length reads.same, length-append (if_waiting old.waiting) reads.more, length-append answers (if_waiting new.waiting));
  made = λ log h.
      let here : Made h.last (replicate (length reads.more) next) reads.more last = rw (h.goes_on ready) at reads.made in
      let all : answers_read log old ++ reads.more ≡ answers_read (with_answers (length reads.more) answers log) new =
      append_assoc log.answers (if_waiting old.waiting) reads.more ∙ ap (λ xs. log.answers ++ xs) reads.same
      ∙ sym (append_assoc log.answers answers (if_waiting new.waiting)) in
      made_by (with_answers (length reads.more) answers log) new last
      (rw all at (reached_more log.rules log.source log.calls (replicate (length reads.more) next) (answers_read log old) reads.more h.last last h.reached here)) goes_on;
  bounded = bounded;
}

-- nothing was read
pub reads_none : (p : Preprocessing) (waiting : Option Given) → is_spent p ≡ false → Reads p waiting [] p waiting
reads_none p waiting unspent = record {
  more = [];
  made = made.none p p [] [] refl refl refl;
  same = append-nil (if_waiting waiting);
  unspent = unspent;
}

-- the one that waited
pub reads_first : (p : Preprocessing) (first : Given) → is_spent p ≡ false → Reads p (Some first) (Some first ∷ []) p None
reads_first p first unspent = record {
  more = [];
  made = made.none p p [] [] refl refl refl;
  same = refl;
  unspent = unspent;
}

-- one more, if none waited
reads_one : (answer : Option Given) (p q : Preprocessing) → Made p (next ∷ []) (answer ∷ []) q → is_spent q ≡ false → Reads p None (answer ∷ []) q None
reads_one answer p q m unspent = record {
  more = answer ∷ [];
  made = m;
  same = refl;
  unspent = unspent;
}

-- one call of `next`
pub reads_call : (answer : Option Given) (p q : Preprocessing) → GivesNext p answer q → Reads p None (answer ∷ []) q None
reads_call answer p q g =
    reads_one answer p q (made.gave answer p q q [] (next ∷ []) [] (answer ∷ []) g (made.none q q [] [] refl refl refl) refl refl) g.given.spent

-- the one that was read waits
pub reads_waiting : (p q : Preprocessing) (waited : Option Given) (item : Given) → Reads p waited (Some item ∷ []) q None → Reads p waited [] q (Some item)
reads_waiting p q waited item h = record {
  more = h.more;
  made = h.made;
  same = h.same;
  unspent = h.unspent;
}

-- the one that waited no longer waits
pub reads_settled : (p q : Preprocessing) (waited : Option Given) (item : Given) (answers : List (Option Given)) → Reads p waited answers q (Some item)
    → Reads p waited (answers ++ Some item ∷ []) q None
reads_settled p q waited item answers h = record {
  more = h.more;
  made = h.made;
  same = h.same ∙ sym (append-nil (answers ++ Some item ∷ []));
  unspent = h.unspent;
}

-- some, and then others
pub reads_then : (p q r : Preprocessing) (waited between waiting : Option Given) (answers others : List (Option Given)) → Reads p waited answers q between
    → Reads q between others r waiting → Reads p waited (answers ++ others) r waiting
reads_then p q r waited between waiting answers others first last = record {
  more = first.more ++ last.more;
  made =
      rw (length-append first.more last.more, ← replicate-append-replicate (length first.more) (length last.more) next)
      (made_then p q r (replicate (length first.more) next) (replicate (length last.more) next) first.more last.more first.made last.made);
  same =
      sym (append_assoc (if_waiting waited) first.more last.more) ∙ ap (λ xs. xs ++ last.more) first.same
      ∙ append_assoc answers (if_waiting between) last.more ∙ ap (λ xs. answers ++ xs) last.same
      ∙ sym (append_assoc answers others (if_waiting waiting));
  unspent = last.unspent;
}
