-- The tables of variables, and where they stand.
use Rattle.std.proofs.Common.{◌≡◌, ℕ, ◌+◌, List, [], ◌∷◌, ◌++◌, ap, sym, ◌∙◌, subst, arith}
use Rattle.std.specs.Prelude.{min}
use Rattle.std.proofs.lemmas.List.{map-append}
use Rattle.st_types.specs.Names.{Declared, Named}
use Rattle.st_places.specs.Members.{AreMembers, HasMembers, IsMember, member_count, members_count}
use Rattle.st_places.specs.declared.member.Member.{Member}
use Rattle.st_places.specs.declared.member.Members.{Members}

module _ (units : List Named) where
  count_more : (vs : List Declared) (v : Declared) → members_count units (vs ++ v ∷ []) ≡ members_count units vs + member_count units v
  count_more [] v = omega arith
  count_more (w ∷ vs) v = omega (arith, count_more vs v)

  items_more : (before after : ℕ) (vs : List Declared) (v : Declared) (ms : List Member) (m : Member) → AreMembers units before vs ms
      → after ≡ before + members_count units vs → IsMember units after v m → AreMembers units before (vs ++ v ∷ []) (ms ++ m ∷ [])
  items_more before after [] v [] m are at is = (subst (λ n. IsMember units n v m) (omega (arith, at)) is, tt)
  items_more before after [] v (n ∷ ms) m are at is = absurd are
  items_more before after (w ∷ vs) v [] m are at is = absurd are
  items_more before after (w ∷ vs) v (n ∷ ms) m are at is = (are.0, items_more (before + member_count units w) after vs v ms m are.1 (omega (arith, at)) is)

  -- with one more declared name
  pub members_more : (vs : List Declared) (v : Declared) (old new : Members) (m : Member) (n : ℕ) → HasMembers units vs old
      → new.names ≡ old.names ++ v.name.spelling ∷ [] → new.items ≡ old.items ++ m ∷ [] → IsMember units (members_count units vs) v m
      → n ≡ min (member_count units v) 1000000 → new.count ≡ min (old.count + n) 1000000 → HasMembers units (vs ++ v ∷ []) new
  members_more vs v old new m n has names items is counted total = record {
    names = names ∙ ap (λ (spelled : List (List ℕ)). spelled ++ v.name.spelling ∷ []) has.names ∙ sym (map-append (λ (d : Declared). d.name.spelling) vs (v ∷ []));
    items = subst (AreMembers units 0 (vs ++ v ∷ [])) (sym items) (items_more 0 (members_count units vs) vs v old.items m has.items (omega arith) is);
    count = omega (arith, total, has.count, counted, count_more vs v);
  }
