-- What adding a definition does to a preprocessor.
use Rattle.std.proofs.Common.{◌≡◌, ◌∙◌, ℕ, ◌+◌, Bool, true, false, if◌then◌else◌, List, [], ◌∷◌, Option, Some, Ok, Err, IsSome, refl, ap, sym, subst, arith}
use Rattle.std.specs.Str.{chars}
use Rattle.pp_lexer.specs.PreprocessorError.{out_of_memory}
use Rattle.pp_lexer.specs.Rules.{pp_rs}
use Rattle.pp_lexer.specs.declared.rules.Rules.{Rules}
use Rattle.pp_lexer.specs.declared.token.Token.{Token}
use Rattle.pp_model.specs.declared.read.Read.{Read}
use Rattle.pp_model.specs.Names.{Name, is_same_name}
use Rattle.pp_model.specs.Definitions.{Definitions, object_like, with_change}
use Rattle.pp_model.specs.Reading.{Expander}
use Rattle.pp_model.specs.Run.{items_by, items_of, content_tokens}
use Rattle.pp_model.specs.inner.Run.{after_addition}
use Rattle.pp_model.specs.Onward.{Onward}
use Rattle.pp_rs.specs.Comes.{with_added}
use Rattle.pp_model.specs.SourceReader.{SourceReader}
use Rattle.pp_model.specs.Emitting.{expansion_limit}
use Rattle.pp_rs.specs.Adding.{IsAdded, refused, faulty, added}
use Rattle.pp_macros.specs.inner.Defined.{Defined, IsChanged, meaning_of, names_in}
use Rattle.pp_rs.specs.inner.Fit.{EndIsLast, IsFit, IsReported, HoldsAsking}
use Rattle.pp_macros.specs.inner.Frames.{Frame, names_of}
use Rattle.pp_macros.specs.Item.{Fault, PlacedStep}
use Rattle.pp_rs.specs.Kept.{Preprocessing, Stands, is_spent, most_items, errors_left, error_place, call_place, item_text, rules_of}
use Rattle.pp_macros.specs.inner.Left.{AreDefinedAbove, work_of}
use Rattle.pp_macros.specs.inner.Expander as kept
use Rattle.pp_macros.specs.inner.Reader.{of_source}
use Rattle.pp_directives.specs.inner.SettingContent.{IsSetIn}
use Rattle.pp_macros.specs.inner.Source.{Source}
use Rattle.pp_macros.specs.inner.Work.{most_reads}
use Rattle.pp_rs.specs.inner.AllTexts.{all_unreported}
use Rattle.pp_macros.specs.inner.Unreported.{unreported_with}
use Rattle.pp_rs.specs.inner.Stands.{StandsForReader, StandsOnward, StandsFor}
use Rattle.pp_macros.specs.declared.step.PlacedExit.TheVariants.{Finished}
use Rattle.pp_macros.proofs.open_frames.OpenSoundLemmas.{numbers_more}
use Rattle.pp_rs.proofs.source.AroundLemmas.{known_more}
use Rattle.pp_rs.proofs.runs.LeftLemmas.{no_more_work}

-- by pp-rs's rules a content has the tokens that it has by those of the preprocessor
pub tokens_by_pp_rs : (old : Preprocessing) (content : List ℕ) → rules_of old ≡ pp_rs
    → content_tokens (items_of content) ≡ content_tokens (items_by (rules_of old) content)
tokens_by_pp_rs old content usual = ap (λ rules. content_tokens (items_by rules content)) (sym usual)

module _ (name : Name) (tokens : List Token) (old new : Source) (h : IsSetIn name tokens old new) where
  reader_added : (definitions : List Defined) → IsChanged name (Some (object_like (old.contents + 1) tokens)) old.definitions definitions → (r : SourceReader)
      → StandsForReader old r → StandsForReader (record old { definitions = definitions; contents = old.contents + 1 }) (after_addition name tokens r)
  reader_added definitions c r s = record {
    rules = s.rules;
    here = s.here;
    around = s.around;
    earlier = s.earlier;
    definitions = rw s.contents (ap (λ (m : Definitions). with_change m name (Some (object_like (old.contents + 1) tokens))) s.definitions ∙ sym c.meaning);
    contents = ap (λ (n : ℕ). n + 1) s.contents;
    unspent = s.unspent;
  }

  onward_added : (definitions : List Defined) → IsChanged name (Some (object_like (old.contents + 1) tokens)) old.definitions definitions → (o : Onward)
      → StandsOnward old o
      → StandsOnward (record old { definitions = definitions; contents = old.contents + 1 }) (record o { reader = after_addition name tokens o.reader })
  onward_added definitions c o s = record {
    reader = reader_added definitions c o.reader s.reader;
    dead = s.dead;
    numbered = s.numbered;
    read = omega (arith, s.read);
    known = known_more old.contents o.dead s.known;
  }

  added_onward : (o : Onward) → StandsOnward old o → StandsOnward new (record o { reader = after_addition name tokens o.reader })
  added_onward o s = subst (λ (source : Source). StandsOnward source (record o { reader = after_addition name tokens o.reader })) (sym h.others)
      (onward_added new.definitions h.definitions o s)

  -- each state is now one in which the definition was added
  pub stands_added : (m : kept.Expander) (e : Expander Onward) → StandsFor m old e → StandsFor m new (with_added name tokens e)
  stands_added m e s = record {
    held = s.held;
    list = s.list;
    reader = added_onward e.reader s.reader;
    hidden = s.hidden;
    goes = s.goes;
  }

  -- what was defined still is
  defined_added : (x : Name) → IsSome (meaning_of old.definitions x) → IsSome (meaning_of new.definitions x)
  defined_added x some = subst (λ (d : Definitions). IsSome (d x)) (sym h.definitions.meaning) (go (is_same_name x name))
    where
      go : (b : Bool) → IsSome (if b then Some (object_like (old.contents + 1) tokens) else meaning_of old.definitions x)
      go true = refl
      go false = some

  above_added : (names : List Name) → AreDefinedAbove old.definitions names → AreDefinedAbove new.definitions names
  above_added [] d = tt
  above_added (x ∷ []) d = tt
  above_added (x ∷ y ∷ names) d = (defined_added x d.0, above_added (y ∷ names) d.1)

  -- the expander may go on
  last_added : (o : Option (PlacedStep Read)) (frames : List Frame) → EndIsLast o frames (of_source old) → EndIsLast o frames (of_source new)
  last_added o frames last = subst (λ (source : Source). EndIsLast o frames (of_source source)) (sym h.others) (same o last)
    where
      same : (o : Option (PlacedStep Read)) → EndIsLast o frames (of_source old) → EndIsLast o frames (of_source (record old { definitions = new.definitions; contents = old.contents + 1 }))
      same (Some (Err Finished)) last = last
      same _ last = tt

  pub fit_added : (m : kept.Expander) → IsFit m old → IsFit m new
  fit_added m fit = record {
    unspent = ap (λ (source : Source). source.spent) h.others ∙ fit.unspent;
    sound = record {
      names = record { apart = fit.sound.names.apart; defined = above_added (names_of m.frames) fit.sound.names.defined };
      numbers = numbers_more (names_in old.definitions) (names_in new.definitions) m.frames h.definitions.kept fit.sound.numbers;
    };
    last = last_added m.held m.frames fit.last;
    asks = subst (λ (source : Source). HoldsAsking source.rules m.held) (sym h.others) fit.asks;
  }

  pub reported_added : (rules : Rules) (m : kept.Expander) → IsReported rules m old → IsReported rules m new
  reported_added rules m reported = subst (λ (source : Source). IsReported rules m source) (sym h.others) reported

  -- where nothing was left, nothing is
  pub none_left_added : (m : kept.Expander) (spent : Bool) → (if spent then 0 else work_of expansion_limit m (of_source old)) ≡ 0
      → (if spent then 0 else work_of expansion_limit m (of_source new)) ≡ 0
  none_left_added m true e = refl
  none_left_added m false e = no_more_work expansion_limit m old new (ap most_reads h.others) e

-- what a call answers, by what was made of the source
module _ (old : Preprocessing) (name content : List ℕ) (new : Source) where
  pub added_now : (tokens : List Token) → content_tokens (items_by old.rules content) ≡ Ok tokens → IsSetIn (chars name) tokens old.source new
      → IsAdded old name content (Ok tt) (record old { source = new })
  unfolding Stands is_spent most_items errors_left error_place call_place item_text rules_of
  added_now tokens e h = added tokens e refl (record {
    stands = λ state stands. stands_added (chars name) tokens old.source new h old.expander state stands;
    spent = refl;
    ended = λ none. none_left_added (chars name) tokens old.source new h old.expander old.spent none;
    errors = ap (λ (s : Source). unreported_with old.expander.held (all_unreported s)) h.others;
    place = refl;
    text = refl;
    call = refl;
    rules = refl;
  })

  pub faulty_now : (fault : Fault) → content_tokens (items_by old.rules content) ≡ Err fault → new ≡ old.source
      → IsAdded old name content (Err fault) (record old { source = new })
  unfolding rules_of
  faulty_now fault e same = faulty fault e refl (ap (λ (source : Source). record old { source = source }) same)

  pub refused_now : new ≡ old.source → IsAdded old name content (Err out_of_memory) (record old { source = new })
  refused_now same = refused refl (ap (λ (source : Source). record old { source = source }) same)
