-- Finitely many definitions stay finitely many if one is added or removed; and two definitions say the same, or they
-- don't.
use Rattle.std.proofs.Common.{◌≡◌, Bool, true, false, ◌∷◌, refl, Some, None, ◌⊎◌, inl, inr}
use Rattle.std.specs.Bool.{Decides}
use Rattle.std.specs.Cmp.Lexicographic.{pointwise_decides, bytes_decides}
use Rattle.pp_lexer.specs.Spelling.{values_of}
use Rattle.pp_lexer.proofs.values.EqualityLemmas.{value_decides}
use Rattle.pp_model.specs.Names.{Name, is_same_name, is_in}
use Rattle.pp_model.specs.Definitions.{Definition, Definitions, with_change, IsSameDefinition}
use Rattle.pp_model.specs.ExistenceLaws.{IsFinite}

-- ---- finitely many

module _ (definitions : Definitions) (name : Name) (finite : IsFinite definitions) where
  pub with_one : (definition : Definition) → IsFinite (with_change definitions name (Some definition))
  with_one definition = record { names = name ∷ finite.names; among = λ other found h. go other found (is_same_name other name) refl h }
    where
      go : (other : Name) (found : Definition) (b : Bool) → is_same_name other name ≡ b → with_change definitions name (Some definition) other ≡ Some found
          → is_in other (name ∷ finite.names) ≡ true
      go other found true p h = rw p refl
      go other found false p h = rw p (finite.among other found (rw p at h))

  pub without_one : IsFinite (with_change definitions name None)
  without_one = record { names = finite.names; among = λ other found h. go other found (is_same_name other name) refl h }
    where
      go : (other : Name) (found : Definition) (b : Bool) → is_same_name other name ≡ b → with_change definitions name None other ≡ Some found
          → is_in other finite.names ≡ true
      go other found true p h = let bad : None ≡ Some found = rw p at h in cc
      go other found false p h = finite.among other found (rw p at h)

-- ---- the same, or not

told : {P : Type 0} (b : Bool) → Decides b P → P ⊎ (P → ⊥)
told true decides = inl (decides.0 refl)
told false decides = inr (λ p. let bad : false ≡ true = decides.1 p in cc)

same_kind : (a b : Bool) → (a ≡ b) ⊎ (a ≡ b → ⊥)
same_kind true true = inl refl
same_kind false false = inl refl
same_kind true false = inr (λ p. cc)
same_kind false true = inr (λ p. cc)

module _ (old new : Definition) where
  pub same_definition : IsSameDefinition old new ⊎ (IsSameDefinition old new → ⊥)
  same_definition = by (same_kind old.function_like new.function_like) (told _ (pointwise_decides bytes_decides old.parameters new.parameters))
      (told _ (pointwise_decides value_decides (values_of old.body) (values_of new.body)))
    where
      by : ((old.function_like ≡ new.function_like) ⊎ (old.function_like ≡ new.function_like → ⊥))
          → ((old.parameters ≡ new.parameters) ⊎ (old.parameters ≡ new.parameters → ⊥))
          → ((values_of old.body ≡ values_of new.body) ⊎ (values_of old.body ≡ values_of new.body → ⊥))
          → IsSameDefinition old new ⊎ (IsSameDefinition old new → ⊥)
      by (inl a) (inl b) (inl c) = inl (record { kind = a; parameters = b; body = c })
      by (inr a) b c = inr (λ s. a s.kind)
      by (inl a) (inr b) c = inr (λ s. b s.parameters)
      by (inl a) (inl b) (inr c) = inr (λ s. c s.body)
