-- Members behind one.
use Rattle.std.proofs.Common.{◌≡◌, refl, ap, sym, ◌∙◌, arith, ℕ, zero, suc, ◌+◌, ◌-◌, ◌==◌, ◌≤◌, length, slice_get, map, subst, Bool, true, false, if◌then◌else◌, List, [], ◌∷◌, drop, Option, None, Some, option_map}
use Rattle.std.proofs.lemmas.List.{drop-map, length-map}
use Rattle.std.specs.Prelude.{is_some}
use Rattle.cx_core.specs.Trees.{CMember, CTypes}
use Rattle.cx_rules.specs.Initial.{CKind, behind, first_named, members_of, record_at, in_member, in_first, lands_in, record_lands}

pub behind_is_drop : (count : ℕ) (members : List CMember) → behind count members ≡ drop count members
behind_is_drop zero members = refl
behind_is_drop (suc n) [] = refl
behind_is_drop (suc n) (one ∷ others) = behind_is_drop n others

named_at : (from index : ℕ) (named : Bool) (rest : Option ℕ) (other : Option ℕ) → option_map (λ n. from + n) rest ≡ other
    → option_map (λ n. from + n) (if named then Some index else rest) ≡ (if named then Some (from + index) else other)
named_at from index true rest other is = refl
named_at from index false rest other is = is

named_from : (from index : ℕ) (members : List CMember) → option_map (λ n. from + n) (first_named index members) ≡ first_named (from + index) members
named_from from index [] = refl
named_from from index (one ∷ others) =
    let next : from + (index + 1) ≡ (from + index) + 1 = omega arith in
    named_at from index (is_some one.name) (first_named (index + 1) others) (first_named ((from + index) + 1) others)
    (named_from from (index + 1) others ∙ ap (λ n. first_named n others) next)

pub named_behind : (from : ℕ) (members : List CMember) → option_map (λ n. from + n) (first_named 0 members) ≡ first_named from members
named_behind from members =
    let same : from + 0 ≡ from = omega arith in named_from from 0 members ∙ ap (λ n. first_named n members) same

pub sliced : {A : Type 0} (view : A → CMember) (from : ℕ) (members part : List A) (found : Option ℕ) → found ≡ first_named 0 (map view part) → part ≡ drop from members
    → option_map (λ n. from + n) found ≡ first_named from (behind from (map view members))
sliced view from members part found is same =
    ap (option_map (λ n. from + n)) (is ∙ ap (λ held. first_named 0 (map view held)) same) ∙ named_behind from (map view (drop from members))
    ∙ ap (first_named from) (sym (drop-map view from members) ∙ sym (behind_is_drop from (map view members)))

none_behind : (count : ℕ) (members : List CMember) → length members ≤ count → behind (suc count) members ≡ []
none_behind count [] le = refl
none_behind zero (one ∷ others) le = absurd (omega (arith, le))
none_behind (suc n) (one ∷ others) le = none_behind n others (omega arith)

pub none_past : {A : Type 0} (view : A → CMember) (held : List A) (members : List CMember) (is_union : Bool) (count : ℕ) → map view held ≡ members → length held ≤ count
    → None ≡ (if is_union then None else first_named (count + 1) (behind (count + 1) members))
none_past view held members true count is le = refl
none_past view held members false count is le =
    let short : length members ≤ count = subst (λ ms. length ms ≤ count) is (rw (length-map held view) le) in
    let next : count + 1 ≡ suc count = omega arith in
    ap (first_named (count + 1)) (sym (none_behind count members short)) ∙ ap (λ n. first_named (count + 1) (behind n members)) (sym next)

pub record_step : (types : CTypes) (kind : CKind) (depth number index : ℕ) (members : List CMember) → members ≡ members_of (record_at types number) → Some index ≡ first_named 0 members → (depth == 0) ≡ false
    → in_member (lands_in (record_lands types kind (depth - 1)) types kind) index (slice_get members index) ≡ record_lands types kind depth number
record_step types kind zero number index members is named some = cc
record_step types kind (suc n) number index members is named some =
    let before : suc n - 1 ≡ n = omega arith in
    let there : first_named 0 (members_of (record_at types number)) ≡ Some index = ap (first_named 0) (sym is) ∙ sym named in
    ap (λ d. in_member (lands_in (record_lands types kind d) types kind) index (slice_get members index)) before
    ∙ ap (λ ms. in_member (lands_in (record_lands types kind n) types kind) index (slice_get ms index)) is
    ∙ ap (in_first (lands_in (record_lands types kind n) types kind) (members_of (record_at types number))) (sym there)
