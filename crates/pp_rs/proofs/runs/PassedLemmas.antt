-- Words of plain text that are given before memory is taken for them, and the newlines that are passed before them.
use Rattle.std.proofs.Common.{◌≡◌, ◌∙◌, ◌<◌, ℕ, zero, suc, Bool, true, false, refl, sym, ap, subst, IsTrue, Option, Some, None, Ok, Err, arith}
use Rattle.pp_lexer.specs.declared.rules.Rules.{Rules}
use Rattle.pp_lexer.specs.TokenValue.{is_ordinary}
use Rattle.pp_lexer.specs.declared.token.Location.{Location}
use Rattle.pp_lexer.specs.declared.token.Token.{Token}
use Rattle.pp_model.specs.Emitting.{answers_at, expansion_limit}
use Rattle.pp_model.specs.declared.splice.CallPlace.{CallPlace}
use Rattle.pp_model.specs.Painting.{read_in}
use Rattle.pp_model.specs.declared.read.Read.{Read}
use Rattle.std.specs.Prelude.{IfSome, IsSome, is_some}
use Rattle.pp_macros.specs.inner.Ahead.{painted_as, given_next}
use Rattle.pp_macros.specs.inner.Giving.{GivesAhead, SomeAhead, passed}
use Rattle.pp_macros.specs.inner.Idle.{is_idle}
use Rattle.pp_macros.specs.inner.Left.{work_of}
use Rattle.pp_macros.specs.inner.Reader.{of_source}
use Rattle.pp_macros.specs.inner.Plain.{gives_itself}
use Rattle.pp_macros.specs.inner.Expander.{Expander, kept_call}
use Rattle.pp_macros.specs.inner.Source.{Source}
use Rattle.pp_macros.specs.declared.step.PlacedExit.TheVariants.{Continue}
use Rattle.pp_directives.specs.inner.PlainText.{IsStep, PausesTimes}
use Rattle.pp_rs.specs.Kept.{LastItem, Preprocessing, Stands, IsAhead, is_spent, most_items, errors_left, error_place, from_text, rules_of}
use Rattle.pp_rs.specs.inner.NextWord.{HasFront, IsPassed}
use Rattle.pp_macros.specs.LexerErrors.{PassesErrors}
use Rattle.pp_rs.specs.Preprocessing.{IsNextItem}
use Rattle.pp_rs.specs.inner.Fit.{IsFit, IsReported}
use Rattle.pp_rs.specs.inner.SourceTurns.{StepsOver}
use Rattle.pp_rs.proofs.runs.IdleLemmas.{idle_exit, idle_token}
use Rattle.pp_rs.proofs.source.UnpaintedLemmas.{reads_step}
use Rattle.pp_macros.proofs.taking.ExpanderLemmas.{is_idle-idle}
use Rattle.pp_rs.proofs.runs.Leads.{LeadsFrom}
use Rattle.pp_rs.proofs.runs.UnreportedTurnLemmas.{errors_of}
use Rattle.pp_directives.proofs.PassedErrorsLemmas.{passes_none}
use Rattle.pp_rs.proofs.runs.PausesLemmas.{given_over}
use Rattle.pp_rs.proofs.runs.NextLemmas.{Reached, reached_first, reached_more, falls_more, token_fits, free_kept_call, next_token}

-- a newline is a turn
pub newline_over : (m : Expander) (r s : Source) → is_idle m ≡ true → IsStep r (Err Continue) s → StepsOver expansion_limit m r (Err Continue) m s
newline_over m r s idle step = idle_exit expansion_limit r s m Continue (Err Continue) (is_idle-idle m idle)
    (reads_step r s (Err Continue) (step.reads, step.errors) (λ e. cc)) refl

-- what was reached before some pauses is reached after them, and less is left to do
pub record ReachedOver (rules : Rules) (expander : Expander) (source : Source) (m : Expander) (r s : Source) : Type 0 where
  pub reached : Reached rules expander source m s
  pub less : work_of expansion_limit m (of_source s) < work_of expansion_limit m (of_source r)

pub pauses_over : {rules : Rules} (n : ℕ) (expander m : Expander) (source r s : Source) → is_idle m ≡ true → Reached rules expander source m r
    → PausesTimes (suc n) r s → ReachedOver rules expander source m r s
pauses_over {rules} zero expander m source r s idle h t =
    let turn = newline_over m r t.0 idle t.1 in
    rw t.2 (record { reached = reached_more expander m m source r t.0 h turn; less = falls_more expander m m source r t.0 h turn })
pauses_over {rules} (suc n) expander m source r s idle h t =
    let turn = newline_over m r t.0 idle t.1 in
    let more = pauses_over n expander m source t.0 s idle (reached_more expander m m source r t.0 h turn) t.2 in
    record { reached = more.reached; less = omega (arith, more.less, falls_more expander m m source r t.0 h turn) }

-- so is a word
pub word_over : (m : Expander) (r s : Source) (token : Token) → is_idle m ≡ true → IsStep r (Ok token) s → gives_itself s.definitions token.value ≡ true
    → StepsOver expansion_limit m r (Ok (read_in r.text token)) m s
word_over m r s token idle step itself = idle_token expansion_limit r s m token (is_idle-idle m idle)
    (reads_step r s (Ok token) (step.reads, step.errors) (λ e. cc)) itself

-- while no macro is open, no call is kept
pub idle_call : (m : Expander) (call other : Option CallPlace) → is_idle m ≡ true → kept_call m.held call m.frames ≡ kept_call m.held other m.frames
idle_call m call other idle =
    let free : m.held ≡ None = ap (λ (k : Expander). k.held) (is_idle-idle m idle) in
    rw free refl

-- a token that is ahead
token_ahead_is : (p : Preprocessing) → p.spent ≡ false → (read : Read) → IsTrue (is_ordinary read.token.value) → (painted : Bool)
    → GivesAhead (of_source p.source) p.expander painted read → IsAhead p read
unfolding IsAhead
token_ahead_is p fresh read ordinary painted gives = (fresh, ordinary, painted, gives)

-- what is ahead, but for its paint
pub record IsOwn (own read : Read) : Type 0 where
  pub token : own.token ≡ read.token
  pub text : own.text ≡ read.text

own_painted : (painted : Bool) (given : Option Read) (own read : Read) → Some own ≡ given → painted_as painted given ≡ Some read → IsOwn own read
own_painted painted None own read first second = cc
own_painted painted (Some other) own read first second =
    let same : own ≡ other = cc in
    let shown : record other { painted = painted } ≡ read = cc in
    record {
      token = ap (λ (r : Read). r.token) same ∙ ap (λ (r : Read). r.token) shown;
      text = ap (λ (r : Read). r.text) same ∙ ap (λ (r : Read). r.text) shown;
    }

some_painted : (painted : Bool) (given : Option Read) (read : Read) → painted_as painted given ≡ Some read → IsSome given
some_painted painted None read e = cc
some_painted painted (Some own) read e = refl

pub ahead_given : (p : Preprocessing) (read : Read) → IsAhead p read → IsSome (given_next p.expander.frames)
unfolding IsAhead
ahead_given p read is = some_painted is.2 (given_next p.expander.frames) read is.3.ahead

same_painted : (given : Option Read) (one other : Bool) (a b : Read) → painted_as one given ≡ Some a → painted_as other given ≡ Some b → a.text ≡ b.text
same_painted None one other a b first second = cc
same_painted (Some own) one other a b first second =
    let x : record own { painted = one } ≡ a = cc in
    let y : record own { painted = other } ≡ b = cc in
    sym (ap (λ (r : Read). r.text) x) ∙ ap (λ (r : Read). r.text) y

-- the text of what is ahead
pub same_text : (p : Preprocessing) (a b : Read) → IsAhead p a → IsAhead p b → a.text ≡ b.text
unfolding IsAhead
same_text p a b first second = same_painted (given_next p.expander.frames) first.2 second.2 a b first.3.ahead second.3.ahead

-- what `advance` found
pub front_found : (p : Preprocessing) (found : Option Bool) → p.spent ≡ false → IfSome found (SomeAhead (of_source p.source) p.expander)
    → is_some found ≡ true → HasFront p
front_found p None fresh gives e = let bad : false ≡ true = e in cc
front_found p (Some painted) fresh gives e = record { fresh = fresh; read = gives.0; painted = painted; gives = gives.1 }

pub front_given : (p : Preprocessing) → (f : HasFront p) → IsSome (given_next p.expander.frames)
front_given p f = some_painted f.painted (given_next p.expander.frames) f.read f.gives.ahead

pub front_own : (p : Preprocessing) (own : Read) → (f : HasFront p) → Some own ≡ given_next p.expander.frames → IsOwn own f.read
front_own p own f first = own_painted f.painted (given_next p.expander.frames) own f.read first f.gives.ahead

pub front_ahead : (p : Preprocessing) → (f : HasFront p) → IsTrue (is_ordinary f.read.token.value) → IsAhead p f.read
front_ahead p f ordinary = token_ahead_is p f.fresh f.read ordinary f.painted f.gives

pub ahead_ordinary : (p : Preprocessing) (read : Read) → IsAhead p read → IsTrue (is_ordinary read.token.value)
unfolding IsAhead
ahead_ordinary p read is = is.1

pub fresh_ahead : (p : Preprocessing) (read : Read) → IsAhead p read → p.spent ≡ false
unfolding IsAhead
fresh_ahead p read ahead = ahead.0

module _ {rules : Rules} (p : Preprocessing) (now : Expander) (source_now : Source) (is : p.expander ≡ now) (same : p.source ≡ source_now)
    (fit : IsFit now source_now × IsReported rules now source_now) (read : Read) (ahead : IsAhead p read) where
  over : StepsOver expansion_limit now source_now (Ok read) (passed now) source_now
  unfolding IsAhead
  over = subst (λ (m : Expander). StepsOver expansion_limit m source_now (Ok read) (passed m) source_now) is
      (subst (λ (r : Source). StepsOver expansion_limit p.expander r (Ok read) (passed p.expander) r) same
      (given_over p.expander (passed p.expander) p.source read ahead.2 ahead.3 refl))

  reached : Reached rules p.expander p.source now source_now
  reached = reached_first p.expander now p.source source_now (sym is) (sym same) fit

  pub pass_fits : IsFit (passed now) source_now × IsReported rules (passed now) source_now
  pass_fits = token_fits p.expander now (passed now) p.source source_now source_now reached read over

  pub ahead_passes : (spent : Bool) (place : Location) (text : ℕ) (call : Option CallPlace) → spent ≡ false → place ≡ p.place → text ≡ read.text
      → rules ≡ p.rules
      → IsNextItem p (Some (Ok read.token))
      (record { expander = passed now; source = source_now; spent = spent; place = place; last = from_text text; name_call = call; rules = rules })
  unfolding IsAhead
  ahead_passes spent place text call fresh at of ruled =
      next_token p.expander now (passed now) p.source source_now source_now reached p ahead.0 refl refl ruled read spent place (from_text text) call fresh at
      (ap from_text of)
      (free_kept_call p.expander now (passed now) p.source source_now source_now reached p ahead.0 refl refl ruled now.held call
      (ap (λ (m : Expander). m.held) (sym is) ∙ ahead.3.free)) over ahead.3.holds

-- nothing was passed
pub passed_nothing : (p : Preprocessing) → IsPassed p p
passed_nothing p = record {
  item = λ state stands. record { between = state; stands = stands; comes = λ o f c. c; same = λ o f c. refl; calls = λ o f c. refl };
  spent = refl;
  errors = passes_none (rules_of p).passes_dead_errors _ _ refl;
  place = refl;
  no_more_left = omega arith;
  rules = refl;
}

-- only pauses were
pub passed_pauses : (old : Preprocessing) (now : Expander) (source_now : Source) (spent : Bool) (place : Location) (last : LastItem) (call : Option CallPlace) (rules : Rules)
    → Reached rules old.expander old.source now source_now → old.spent ≡ false → spent ≡ false → place ≡ old.place → rules ≡ old.rules
    → IsPassed old (record { expander = now; source = source_now; spent = spent; place = place; last = last; name_call = call; rules = rules })
unfolding Stands is_spent errors_left error_place most_items rules_of
passed_pauses old now source_now spent place last call rules r fresh same at ruled = record {
  item = λ state stands.
      let leads : LeadsFrom (answers_at expansion_limit) state (Err Continue) None now source_now = r.leads.from state stands in
      record {
        between = leads.0;
        stands = leads.1;
        comes = λ o f c. record { taken = c.taken; emits = (leads.2 c.taken f c.emits).0; is = c.is };
        same = λ o f c. refl;
        calls = λ o f c. (leads.2 c.taken f c.emits).1;
      };
  spent = same ∙ sym fresh;
  errors = subst (λ (by : Rules). PassesErrors by.passes_dead_errors (errors_of old.expander old.source) (errors_of now source_now)) ruled r.errors;
  place = at;
  no_more_left = rw (same, fresh) r.less;
  rules = ruled;
}
