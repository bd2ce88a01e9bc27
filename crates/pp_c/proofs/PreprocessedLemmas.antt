-- What a call gives in C.
use Rattle.std.proofs.Common.{◌≡◌, ◌∙◌, ℕ, ◌<◌, ◌^◌, ◌≢◌, inl, inr, true, Option, Some, None, refl, subst, List, ◌++◌, length, drop, ap, sym, arith}
use Rattle.pp_macros.specs.LexerErrors.{lexer_errors_by}
use Rattle.pp_model.specs.Run.{items_by}
use Rattle.pp_rs.specs.Comes.{start_by}
use Rattle.pp_rs.specs.Kept.{Preprocessing, Stands, errors_left, rules_of}
use Rattle.pp_rs.specs.Rules.{pp_rs}
use Rattle.pp_c.specs.Calls.{calls_from}
use Rattle.pp_c.specs.Ends.{HasRoom}
use Rattle.pp_c.specs.Entries.{Entry, in_64_bits, items_from, texts_of, room_of, put_over}
use Rattle.pp_c.specs.Options.{most_in, most_asking_in}
use Rattle.pp_c.specs.Preprocessed.{Given, answers_of, times_asked, AreWritten, StopsAt, Preprocesses, PreprocessesWith, StopsAsking, HasAskedItems, Includes}
use Rattle.pp_c.specs.inner.Making.{is_all, StopsBy, IsAsked, HasAll, Gives, Answers}
use Rattle.pp_c.specs.inner.Settings.{setting_in, asking_setting, takes_texts}
use Rattle.pp_c.specs.inner.Taking.{Takes, HaveRoom, written_over}
use Rattle.pp_c.specs.declared.items.Definition.{Definition}
use Rattle.pp_c.specs.declared.items.Item.{Item}
use Rattle.pp_c.specs.declared.items.Sizes.{Sizes}
use Rattle.pp_c.specs.declared.options.Options.{Options}
use Rattle.pp_c.specs.declared.options.Setting.{Setting}
use Rattle.pp_c.specs.declared.status.End.{End}
use Rattle.pp_c.specs.declared.status.End.TheVariants.{All, Front, Include}
use Rattle.pp_c.specs.declared.output.Output.{Output}
use Rattle.pp_c.proofs.MadeLemmas.{answers_by}
use Rattle.pp_c.proofs.TakingLemmas.{room_of_all}

-- the items of a source, from what was made of it
pub gives_items : (setting : Setting) (end : End) (source words : List ℕ) (definitions : List Definition) (begun new : Preprocessing) (output after : Output)
    → Stands begun (start_by setting.rules (items_by setting.rules source)) → errors_left begun ≡ lexer_errors_by setting.rules source
    → rules_of begun ≡ setting.rules → HasAll setting end begun output words definitions new after
    → Gives setting end source words definitions output after
gives_items setting end source words definitions begun new output after stands errors same h =
    let calls = calls_from (takes_texts setting) words (times_asked (is_all end) h.given) 0 definitions in
    record {
      given = h.given;
      are_items = answers_by setting.rules source begun new calls (answers_of h.given (is_all end)) stands errors same h.made;
      stops = h.stops;
      asked = h.asked;
      takes = h.takes;
    }

over_front : {A : Type 0} (more old : List A) → written_over 0 more old ≡ put_over more old
over_front more old = ap (λ n. more ++ drop n old) (omega arith)

-- what was written from the start on
pub are_written : (entries : List Entry) (output after : Output) (items items_after : List Item) (texts texts_after : List ℕ) (sizes : Sizes)
    → length items < 2 ^ 63 → length texts < 2 ^ 63
    → output.items.now ≡ items → output.texts.now ≡ texts → output.sizes ≡ record { items = 0; texts = 0 } → Takes output entries after
    → items_after ≡ after.items.now → texts_after ≡ after.texts.now → sizes ≡ after.sizes → AreWritten entries items items_after texts texts_after sizes
are_written entries output after items items_after texts texts_after sizes i t oi ot os h ai at as_ =
    let zero_items : output.sizes.items ≡ 0 = ap (λ (s : Sizes). s.items) os in
    let zero_texts : output.sizes.texts ≡ 0 = ap (λ (s : Sizes). s.texts) os in
    let room : sizes ≡ room_of entries =
    as_ ∙ h.sizes ∙ room_of_all output.sizes entries os in
    let count : sizes.items ≡ in_64_bits (length entries) = ap (λ (s : Sizes). s.items) room in
    let bytes : sizes.texts ≡ in_64_bits (length (texts_of entries)) = ap (λ (s : Sizes). s.texts) room in
    let items_same : length output.items.now ≡ length items = ap length oi in
    let texts_same : length output.texts.now ≡ length texts = ap length ot in
    let have : HasRoom (length items) (length texts) sizes → HaveRoom output entries = λ r.
    let wanted_items = r.items in
    let wanted_texts = r.texts in
    record {
      items = omega (arith, wanted_items, count, zero_items, items_same, i);
      texts = omega (arith, wanted_texts, bytes, zero_texts, texts_same, t);
    } in
    record {
      room = room;
      items_are = λ r. ai ∙ h.items (have r) ∙ rw (zero_items, zero_texts, oi) (over_front (items_from 0 entries) items);
      texts_are = λ r. at ∙ h.texts (have r) ∙ rw (zero_texts, ot) (over_front (texts_of entries) texts);
    }

module _ (answer : ℕ) (source words : List ℕ) (definitions : List Definition) (items items_after : List Item) (texts texts_after : List ℕ)
    (sizes : Sizes) where
  -- a call that asks for no texts ends at no line
  stops_at : (most : Option ℕ) (end : End) (given : List Given) → StopsBy most end (length given) → IsAsked None end given → StopsAt most (is_all end) (length given)
  stops_at None All given h asked = tt
  stops_at None Front given h asked = h
  stops_at None Include given h asked = absurd asked
  stops_at (Some most) All given h asked = h
  stops_at (Some most) Front given h asked = h
  stops_at (Some most) Include given h asked = absurd asked

  to_end : (end : End) (given : List Given) → StopsBy None end (length given) → IsAsked None end given → is_all end ≡ true
  to_end All given h asked = refl
  to_end Front given h asked = absurd h
  to_end Include given h asked = absurd asked

  -- where no number is given the end is reached
  pub all_preprocessed : (setting : Setting) → setting ≡ record { rules = pp_rs; budget = None; most_items = None; passes = None }
      → Answers setting answer source words definitions items items_after texts texts_after sizes
      → Preprocesses source words definitions items items_after texts texts_after sizes
  all_preprocessed setting plain h =
      let p = rw plain at h in
      let e = to_end p.end p.given p.stops p.asked in
      record { given = p.given; are_items = rw e at p.are_items; stops = tt; written = p.written }

  -- and no answer says that it isn't
  pub never_partial : (setting : Setting) → setting ≡ record { rules = pp_rs; budget = None; most_items = None; passes = None }
      → Answers setting answer source words definitions items items_after texts texts_after sizes → answer ≡ 7 → ⊥
  never_partial setting plain h e =
      let p = rw plain at h in
      subst (λ end. StopsBy None end (length p.given)) (p.partial e) p.stops

  pub preprocessed_with : (options : Options) (setting : Setting) → setting ≡ setting_in options → Answers setting answer source words definitions items items_after texts texts_after sizes
      → PreprocessesWith options answer source words definitions items items_after texts texts_after sizes
  preprocessed_with options setting known h =
      let p = rw known at h in
      record {
        has_ended = is_all p.end;
        done = λ n. ap is_all (p.done n);
        partial = λ n. ap is_all (p.partial n);
        preprocesses = record { given = p.given; are_items = p.are_items; stops = stops_at (most_in options) p.end p.given p.stops p.asked; written = p.written };
      }

  -- the answer if there is room
  abbrev with_room : End → ℕ
  with_room All = 0
  with_room Front = 7
  with_room Include = 9

  stops_asking : (most passed : ℕ) (end : End) (given : List Given) → StopsBy (Some most) end (length given) → IsAsked (Some passed) end given
      → StopsAsking most passed (with_room end) (is_all end) given
  stops_asking most passed All given h asked = record {
    stops = inl refl;
    done = λ e. (refl, h, asked);
    partial = λ e. absurd (omega (arith, e));
    asking = λ e. absurd (omega (arith, e));
  }
  stops_asking most passed Front given h asked = record {
    stops = inr (inl refl);
    done = λ e. absurd (omega (arith, e));
    partial = λ e. (refl, h, asked);
    asking = λ e. absurd (omega (arith, e));
  }
  stops_asking most passed Include given h asked = record {
    stops = inr (inr refl);
    done = λ e. absurd (omega (arith, e));
    partial = λ e. absurd (omega (arith, e));
    asking = λ e. (refl, h, asked);
  }

  room_is : (end : End) → HasAskedItems answer → (answer ≡ 0 → end ≡ All) → (answer ≡ 7 → end ≡ Front) → (answer ≡ 9 → end ≡ Include) → answer ≢ 1
      → with_room end ≡ answer
  room_is end (inl (inl few)) done partial asking more = let none : answer ≡ 0 = omega (arith, few, more) in rw (done none) (sym none)
  room_is end (inl (inr seven)) done partial asking more = rw (partial seven) (sym seven)
  room_is end (inr nine) done partial asking more = rw (asking nine) (sym nine)

  pub included : (options : Options) (passed : ℕ) (setting : Setting) → setting ≡ asking_setting options passed → HasAskedItems answer
      → Answers setting answer source words definitions items items_after texts texts_after sizes
      → Includes options passed answer source words definitions items items_after texts texts_after sizes
  included options passed setting known has h =
      let p = rw known at h in
      record {
        given = p.given;
        has_ended = is_all p.end;
        are_items = p.are_items;
        with_room = with_room p.end;
        same = λ more. room_is p.end has p.done p.partial p.asking more;
        stops = stops_asking (most_asking_in options) passed p.end p.given p.stops p.asked;
        written = p.written;
      }
