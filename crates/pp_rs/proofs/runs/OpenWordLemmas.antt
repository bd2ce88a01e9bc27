-- A word of plain text that names a macro without parentheses, while no macro is open.
use Rattle.std.proofs.Common.{◌≡◌, true, false, ℕ, [], ◌∷◌, refl, ap, sym, Option, Some, None, Ok, Err}
use Rattle.std.specs.Prelude.{unwrap_or}
use Rattle.std.proofs.lemmas.Bool.{not-true}
use Rattle.pp_model.specs.Definitions.{Definition}
use Rattle.pp_model.specs.Emitting.{expansion_limit}
use Rattle.pp_model.specs.Names.{Name, is_identifier, line_name}
use Rattle.pp_model.specs.Painting.{read_in}
use Rattle.pp_macros.specs.inner.Defined.{Macro, AreNumbered, meaning_of, names_in, numbered_by, opened_by}
use Rattle.pp_macros.specs.inner.Expander.{Expander}
use Rattle.pp_macros.specs.inner.Frames.{new_frame, bare_call}
use Rattle.pp_macros.specs.inner.Idle.{is_idle}
use Rattle.pp_macros.specs.inner.Reader.{of_source}
use Rattle.pp_macros.specs.inner.Source.{Source}
use Rattle.pp_macros.specs.inner.Turns.{Opens}
use Rattle.pp_macros.specs.declared.step.PlacedExit.TheVariants.{Continue}
use Rattle.pp_macros.proofs.taking.ExpanderLemmas.{is_idle-idle}
use Rattle.pp_lexer.specs.declared.lexer.plain_item.PlainItem.{PlainItem}
use Rattle.pp_directives.specs.WordTokens.{word_token}
use Rattle.pp_directives.specs.inner.PlainText.{is_bare, TakesWord}
use Rattle.pp_rs.specs.inner.NextWord.{OpensNumbered}
use Rattle.pp_rs.specs.inner.SourceTurns.{StepsOver}
use Rattle.pp_rs.proofs.runs.IdleLemmas.{idle_opens}
use Rattle.pp_rs.proofs.source.UnpaintedLemmas.{reads_step}

opened_bare : (w name : Name) (o : Option Definition) (definition : Definition) → is_bare o ≡ true → Some (name, definition) ≡ opened_by w o
    → definition.function_like ≡ false
opened_bare w name None definition bare e = cc
opened_bare w name (Some d) definition bare e =
    let same : d ≡ definition = ap (λ (o : Option (Name × Definition)). (unwrap_or o (w, d)).1) (sym e) in
    rw same at (not-true d.function_like bare)

-- no macro is found for a name that has a bare one
pub bare_found : (w : Name) (o : Option Definition) → is_bare o ≡ true → None ≡ opened_by w o → ⊥
bare_found w None bare e = cc
bare_found w (Some d) bare e = cc

there : (o : Option Definition) → is_bare o ≡ true → (d : Definition) × (o ≡ Some d)
there None bare = cc
there (Some d) bare = (d, refl)

module _ (m n : Expander) (r s : Source) (word : PlainItem) (id : ℕ) (takes : TakesWord r word (Some id) s) (opened : Macro)
    (found : Some (opened.name, opened.definition) ≡ opened_by word.spelling.now (meaning_of s.definitions word.spelling.now))
    (numbered : AreNumbered (names_in s.definitions) (numbered_by opened)) where
  apart : is_identifier line_name (word_token word).value ≡ false
  apart = rw takes.does.0 takes.does.1.apart

  opens : Opens (of_source s) (read_in r.text (word_token word)) opened
  opens = record { is = rw takes.does.0 (sym found); numbered = numbered }

  opens_over : is_idle m ≡ true → n ≡ record m { frames = new_frame opened (bare_call r.text word.location) [] ∷ m.frames }
      → StepsOver expansion_limit m r (Err Continue) n s
  opens_over idle is =
      idle_opens expansion_limit r s m n (word_token word) opened (is_idle-idle m idle) (reads_step r s (Ok (word_token word)) (takes.step.reads, takes.step.errors) (λ e. cc)) apart opens
      (opened_bare word.spelling.now opened.name _ opened.definition takes.does.1.bare found) is

module _ (m : Expander) (r s : Source) (word : PlainItem) (id : ℕ) (idle : is_idle m ≡ true) (takes : TakesWord r word (Some id) s) where
  -- the macro opens
  pub bare_over : (n : Expander) → OpensNumbered s.definitions r.text id word.location m n → StepsOver expansion_limit m r (Err Continue) n s
  bare_over n opens =
      opens_over m n r s word id takes opens.opened (opens.is word.spelling.now takes.does.1.number) opens.numbered idle opens.opens

  -- it would have opened if there had been memory
  pub bare_would : (n : Expander) × StepsOver expansion_limit m r (Err Continue) n s
  bare_would =
      let definition = there (meaning_of s.definitions word.spelling.now) takes.does.1.bare in
      let opened : Macro = record { name = word.spelling.now; number = id; definition = definition.0; noted = [] } in
      let after : Expander = record m { frames = new_frame opened (bare_call r.text word.location) [] ∷ m.frames } in
      (after, opens_over m after r s word id takes opened (ap (λ (o : Option Definition). opened_by word.spelling.now o) (sym definition.1)) (takes.does.1.number, tt) idle refl)
