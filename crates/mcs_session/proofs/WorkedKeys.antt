-- Worked keys, by the definitions.
use Rattle.std.proofs.Common.{◌≡◌, [], ◌∷◌, codes, inl, inr, refl, sym, ap, ◌∙◌}
use Rattle.mcs_system.specs.Plain.{Atom}
use Rattle.mcs_system.specs.Systems.{variables_of, variables}
use Rattle.mcs_sets.specs.Sets.{has, single, union, such_that, members, members_from}
use Rattle.mcs_session.specs.Keys.{Key, places_in}
use Rattle.mcs_session.specs.Journals.{AreNewKeys, AreKeptKeys}
use Rattle.mcs_session.specs.Worked.{the_key, FirstKeysAreNew, LaterKeysAreKept, KeysHaveTexts}

pub first_keys : FirstKeysAreNew
unfolding variables_of variables has single union such_that members members_from
first_keys = record {
  first = refl;
  second = refl;
  new_keys = record { exactly = λ k. (λ h. record { asked_for = h; new = λ none. none }, λ is. is.asked_for); apart = ((λ none. none), tt) };
  none_kept = record { exactly = λ k. (λ none. absurd none, λ is. is.kept); apart = tt };
}

-- of two keys the first was kept
module _ (a b : Key) (other : ¬ (b ≡ a)) where
  second_new : AreNewKeys (a ∷ []) (a ∷ b ∷ []) (b ∷ [])
  second_new = record {
    exactly = λ k. (
      λ h. elim h [ inl e ↦ record { asked_for = inr (inl e); new = λ old. elim old [ inl same ↦ other (sym e ∙ same) | inr none ↦ none ] } | inr none ↦ absurd none ],
      λ is. elim is.asked_for [ inl e ↦ absurd (is.new (inl e)) | inr h ↦ h ],
    );
    apart = ((λ none. none), tt);
  }

  first_kept : AreKeptKeys (a ∷ []) (a ∷ b ∷ []) (a ∷ [])
  first_kept = record {
    exactly = λ k. (
      λ h. elim h [ inl e ↦ record { asked_for = inl e; kept = inl e } | inr none ↦ absurd none ],
      λ is. is.kept,
    );
    apart = ((λ none. none), tt);
  }

has_head : ¬ (the_key 1 (Atom (codes "p") ∷ []) [] ≡ the_key 1 [] [])
has_head same = let no : Atom (codes "p") ∷ [] ≡ [] = ap (λ (k : Key). k.heads) same in absurd (cc)

pub later_keys : LaterKeysAreKept
unfolding variables_of variables has single union such_that members members_from
later_keys = record {
  first = refl;
  second = refl;
  new_key = second_new (the_key 1 [] []) (the_key 1 (Atom (codes "p") ∷ []) []) has_head;
  kept_key = first_kept (the_key 1 [] []) (the_key 1 (Atom (codes "p") ∷ []) []) has_head;
}

pub key_texts : KeysHaveTexts
unfolding places_in has single union such_that members members_from
key_texts = record { with_head = refl; with_belief = refl; place = refl }
