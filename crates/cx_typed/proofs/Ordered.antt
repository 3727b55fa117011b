-- Parts of an object stand in the order of their paths, where no two of them are in different members of a union (ISO C99, 6.7.8p17, p19).
use Rattle.std.proofs.Common.{◌≡◌, ◌⊎◌, inl, inr, ⊎_elim, ℕ, ◌+◌, ◌*◌, ◌<◌, ◌≤◌, ◌==◌, nat_lt, Bool, true, false, if◌then◌else◌, List, [], ◌∷◌, Option, None, Some, option_map, refl, sym, ap, ◌∙◌, subst, arith}
use Rattle.std.proofs.lemmas.Bool.Decides.{nat_tests}
use Rattle.cx_core.specs.Layouts.{row_at, passes, layouts_of}
use Rattle.cx_core.specs.Trees.{CTy, ty, CTyForm, void, basic, enum_type, pointer, array, record_type, function, form_of_type, CTypes}
use Rattle.cx_core.specs.ValidTypes.{CPart, member_of, direct_part, part_at, within, has_name, is_named_path}
use Rattle.cx_layout.proofs.Place.{stands_apart}
use Rattle.cx_layout.specs.Calls.{record_at}
use Rattle.cx_layout.specs.Places.{first_bit, end_bit}
use Rattle.cx_rules.specs.Initial.{CStored, part_type, type_by, takes_away, comes_before, is_union_type, is_union_of, completed_type, has_element}
use Rattle.cx_typed.proofs.Placed.{then_found, map_found, some_same, first_of, within_first, times_more, inside, HaveWholeBits, IsElementPart, element_part, IsMemberPart, member_part, row_here, stands, laid_out, member_ends}
use Rattle.cx_typed.proofs.Members.{row_found}
use Rattle.cx_typed.proofs.Same.{number_is}
use Rattle.cx_typed.proofs.Stays.{both, together}
use Rattle.cx_typed.specs.Initialised.{is_named_by}

-- ---- an object, and what it is once its initialiser has ended

-- the same type, but for the length of an array
abbrev pub IsLike : CTy → CTy → Type 0
IsLike (ty (array element length) is_const) other = (count : Option ℕ) × (other ≡ ty (array element count) is_const)
IsLike type other = other ≡ type

pub like_itself : (type : CTy) → IsLike type type
like_itself (ty (array element length) is_const) = (length, refl)
like_itself (ty void is_const) = refl
like_itself (ty (basic which) is_const) = refl
like_itself (ty (enum_type number) is_const) = refl
like_itself (ty (pointer to) is_const) = refl
like_itself (ty (record_type number) is_const) = refl
like_itself (ty (function result params variadic) is_const) = refl

pub like_completed : (type : CTy) (stored : List CStored) → IsLike type (completed_type type stored)
like_completed (ty (array element None) is_const) stored = (_, refl)
like_completed (ty (array element (Some count)) is_const) stored = (_, refl)
like_completed (ty void is_const) stored = refl
like_completed (ty (basic which) is_const) stored = refl
like_completed (ty (enum_type number) is_const) stored = refl
like_completed (ty (pointer to) is_const) stored = refl
like_completed (ty (record_type number) is_const) stored = refl
like_completed (ty (function result params variadic) is_const) stored = refl

element_or : CTy → CTyForm → CTy
element_or other (array element length) = element
element_or other form = other

if_element : (test : Bool) (element type : CTy) → (if test then Some element else None) ≡ Some type → element ≡ type
if_element true element type is = some_same element type is
if_element false element type is = absurd cc

module _ (types : CTypes) where
  -- the part with a number has the type that is found so
  pub direct_type : (type other : CTy) (index : ℕ) (outer : CPart) (found : CTy) → IsLike type other → direct_part types index (form_of_type other) ≡ Some outer → part_type types type index ≡ Some found → outer.type ≡ found
  direct_type (ty (array element length) is_const) other index outer found like direct is =
      let held = element_part types element like.0 index outer (subst (λ t. direct_part types index (form_of_type t) ≡ Some outer) like.1 direct) in
      held.type_is ∙ if_element (has_element types element length index) element found is
  direct_type (ty (record_type number) is_const) other index outer found like direct is =
      let held = member_part types number index outer (subst (λ t. direct_part types index (form_of_type t) ≡ Some outer) like direct) in
      held.type_is ∙ some_same held.one.type found (sym (ap (option_map (λ one. one.type)) held.member_is) ∙ is)
  direct_type (ty void is_const) other index outer found like direct is = absurd cc
  direct_type (ty (basic which) is_const) other index outer found like direct is = absurd cc
  direct_type (ty (enum_type number) is_const) other index outer found like direct is = absurd cc
  direct_type (ty (pointer to) is_const) other index outer found like direct is = absurd cc
  direct_type (ty (function result params variadic) is_const) other index outer found like direct is = absurd cc

  pub type_none : (path : List ℕ) (found : Option CTy) (type : CTy) → type_by types found path ≡ Some type → (inner : CTy) × (found ≡ Some inner) × (type_by types (Some inner) path ≡ Some type)
  type_none path None type is = absurd cc
  type_none path (Some inner) type is = (inner, refl, is)

  -- a part that a path leads to, whatever stands in front of it
  pub record IsStep (path : List ℕ) (index : ℕ) (type other found : CTy) (part : CPart) : Type 0 where
    pub outer : CPart
    pub direct : direct_part types index (form_of_type other) ≡ Some outer
    pub inner : CPart
    pub there : part_at types path outer.type ≡ Some inner
    pub whole : within outer inner ≡ part
    pub found_is : type_by types (Some outer.type) path ≡ Some found
    pub part_is : part_type types type index ≡ Some outer.type

  pub step_of : (path : List ℕ) (index : ℕ) (type other found : CTy) (part : CPart) → IsLike type other → type_by types (Some type) (index ∷ path) ≡ Some found → part_at types (index ∷ path) other ≡ Some part
      → IsStep path index type other found part
  step_of path index type other found part like is there =
      let outer = then_found (λ outer. option_map (within outer) (part_at types path outer.type)) (direct_part types index (form_of_type other)) part there in
      let inner = map_found (within outer.0) (part_at types path outer.0.type) part outer.2 in
      let held = type_none path (part_type types type index) found is in
      let same : outer.0.type ≡ held.0 = direct_type type other index outer.0 held.0 like outer.1 held.1 in
      record {
        outer = outer.0;
        direct = outer.1;
        inner = inner.0;
        there = inner.1;
        whole = inner.2;
        found_is = subst (λ t. type_by types (Some t) path ≡ Some found) (sym same) held.2;
        part_is = held.1 ∙ ap Some (sym same);
      }

  -- the part has the type by which it was found
  pub part_type_is : (path : List ℕ) (type found : CTy) (part : CPart) → type_by types (Some type) path ≡ Some found → part_at types path type ≡ Some part → part.type ≡ found
  part_type_is [] type found part is there = ap (λ p. p.type) (sym (some_same _ part there)) ∙ some_same type found is
  part_type_is (index ∷ path) type found part is there =
      let held = step_of path index type type found part (like_itself type) is there in
      ap (λ p. p.type) (sym held.whole) ∙ part_type_is path held.outer.type found held.inner held.found_is held.there

  pub part_in_whole : (path : List ℕ) (type other found : CTy) (part : CPart) → IsLike type other → (path ≡ [] → type ≡ other) → type_by types (Some type) path ≡ Some found → part_at types path other ≡ Some part → part.type ≡ found
  part_in_whole [] type other found part like same is there = ap (λ p. p.type) (sym (some_same _ part there)) ∙ sym (same refl) ∙ some_same type found is
  part_in_whole (index ∷ path) type other found part like same is there =
      let held = step_of path index type other found part like is there in
      ap (λ p. p.type) (sym held.whole) ∙ part_type_is path held.outer.type found held.inner held.found_is held.there

  -- ---- named members on the way

  like_member : (type other : CTy) (index : ℕ) → IsLike type other → member_of types (form_of_type other) index ≡ member_of types (form_of_type type) index
  like_member (ty (array element length) is_const) other index like = ap (λ t. member_of types (form_of_type t) index) like.1
  like_member (ty void is_const) other index like = ap (λ t. member_of types (form_of_type t) index) like
  like_member (ty (basic which) is_const) other index like = ap (λ t. member_of types (form_of_type t) index) like
  like_member (ty (enum_type number) is_const) other index like = ap (λ t. member_of types (form_of_type t) index) like
  like_member (ty (pointer to) is_const) other index like = ap (λ t. member_of types (form_of_type t) index) like
  like_member (ty (record_type number) is_const) other index like = ap (λ t. member_of types (form_of_type t) index) like
  like_member (ty (function result params variadic) is_const) other index like = ap (λ t. member_of types (form_of_type t) index) like

  abbrev is_named_rest : List ℕ → Option CPart → Bool
  is_named_rest path None = true
  is_named_rest path (Some part) = is_named_path types path part.type

  -- a path over named members leads over them in the whole object, too
  pub named_in_whole : (path : List ℕ) (type other found : CTy) (part : CPart) → IsLike type other → type_by types (Some type) path ≡ Some found → part_at types path other ≡ Some part
      → is_named_by types (Some type) path ≡ true → is_named_path types path other ≡ true
  named_in_whole [] type other found part like is there named = refl
  named_in_whole (index ∷ path) type other found part like is there named =
      let held = step_of path index type other found part like is there in
      let rest : is_named_by types (Some held.outer.type) path ≡ true = sym (ap (λ inner. is_named_by types inner path) held.part_is) ∙ (both named).1 in
      together (ap has_name (like_member type other index like) ∙ (both named).0)
      (ap (is_named_rest path) held.direct
      ∙ named_in_whole path held.outer.type held.outer.type found held.inner (like_itself held.outer.type) held.found_is held.there rest)

-- ---- places in order

first_none : (types : CTypes) (type : CTy) (part : CPart) → part_at types [] type ≡ Some part → first_of part ≡ 0
first_none types type part is = ap first_of (sym (some_same _ part is))

abbrev pub AreApart : CTypes → CTy → (first second : List ℕ) → Type 0
AreApart types type first second = (takes_away types (Some type) second first ≡ false) ⊎ (takes_away types (Some type) first second ≡ false)

before_bits : (first second size inner : ℕ) → first < second → inner ≤ 8 * size → 8 * (first * size) + 0 + inner ≤ 8 * (second * size) + 0
before_bits first second size inner less fits = (let h : first * size + size ≤ second * size = times_more first second size less in omega (arith, h, fits))

module _ (types : CTypes) (whole_bits : HaveWholeBits types) where
  -- elements of an array
  elements_ordered : (element : CTy) (length : Option ℕ) (first second : ℕ) (p : List ℕ) (one other one_inner one_part : CPart) → IsElementPart types element length first one
      → IsElementPart types element length second other → first < second → part_at types p one.type ≡ Some one_inner → within one one_inner ≡ one_part → first_of one_part ≤ first_of other
  elements_ordered element length first second p one other one_inner one_part held later less there is =
      let fits : first_of one_inner ≤ 8 * held.laid.size = inside types whole_bits p element held.laid one_inner held.sized (subst (λ t. part_at types p t ≡ Some one_inner) held.type_is there) in
      let same : held.laid ≡ later.laid = some_same held.laid later.laid (sym held.sized ∙ later.sized) in
      let at : first_of one_part ≡ first_of one + first_of one_inner = within_first one one_inner one_part is in
      let front : first_of one ≡ 8 * (first * held.laid.size) + 0 = ap first_bit held.spot_is in
      let behind : first_of other ≡ 8 * (second * held.laid.size) + 0 = ap first_bit later.spot_is ∙ ap (λ l. 8 * (second * l.size) + 0) (sym same) in
      let most : 8 * (first * held.laid.size) + 0 + first_of one_inner ≤ 8 * (second * held.laid.size) + 0 = before_bits first second held.laid.size (first_of one_inner) less fits in
      omega (arith, at, front, behind, most)

  -- members of a structure
  members_ordered : (number first second : ℕ) (p : List ℕ) (one other one_inner one_part : CPart) → is_union_of (record_at types number) ≡ false → IsMemberPart types number first one
      → IsMemberPart types number second other → first < second → part_at types p one.type ≡ Some one_inner → within one one_inner ≡ one_part → first_of one_part ≤ first_of other
  members_ordered number first second p one other one_inner one_part structure held later less there is =
      let row = row_found (row_at (layouts_of types) number) first one.spot held.spot_is in
      let here = row_here types number row.0 row.1 in
      let one_there = stands types number first row.0 here held.one one.spot held.member_is held.spot_is in
      let other_there = stands types number second row.0 here later.one other.spot later.member_is later.spot_is in
      let ends : first_of one_part ≤ end_bit one.spot one_there.piece_is = member_ends types whole_bits p (inside types whole_bits p) number first row.0 here held.one one one_inner one_part one_there held.type_is there is in
      let plain : here.of.one.is_union ≡ false = sym (ap is_union_of here.of.one_is) ∙ structure in
      let apart : end_bit one.spot one_there.piece_is ≤ first_bit other.spot =
      stands_apart (passes here.of.passed types) here.of.one row.0 here.of.pieces first second one_there.piece_is other_there.piece_is one.spot other.spot (laid_out types whole_bits number row.0 here) plain less
      one_there.at other_there.at in
      omega (arith, ends, apart)

  forms_ordered : (type other : CTy) (first second : ℕ) (p : List ℕ) (one_part later one_inner part : CPart) → IsLike type other → is_union_type types type ≡ false
      → direct_part types first (form_of_type other) ≡ Some one_part → direct_part types second (form_of_type other) ≡ Some later → first < second
      → part_at types p one_part.type ≡ Some one_inner → within one_part one_inner ≡ part → first_of part ≤ first_of later
  forms_ordered (ty (array element length) is_const) other first second p one_part later one_inner part like plain direct behind less there is =
      elements_ordered element like.0 first second p one_part later one_inner part
      (element_part types element like.0 first one_part (subst (λ t. direct_part types first (form_of_type t) ≡ Some one_part) like.1 direct))
      (element_part types element like.0 second later (subst (λ t. direct_part types second (form_of_type t) ≡ Some later) like.1 behind)) less there is
  forms_ordered (ty (record_type number) is_const) other first second p one_part later one_inner part like plain direct behind less there is =
      members_ordered number first second p one_part later one_inner part plain
      (member_part types number first one_part (subst (λ t. direct_part types first (form_of_type t) ≡ Some one_part) like direct))
      (member_part types number second later (subst (λ t. direct_part types second (form_of_type t) ≡ Some later) like behind)) less there is
  forms_ordered (ty void is_const) other first second p one_part later one_inner part like plain direct behind less there is =
      absurd (let h : direct_part types first void ≡ Some one_part = subst (λ t. direct_part types first (form_of_type t) ≡ Some one_part) like direct in cc)
  forms_ordered (ty (basic which) is_const) other first second p one_part later one_inner part like plain direct behind less there is =
      absurd (let h : direct_part types first (basic which) ≡ Some one_part = subst (λ t. direct_part types first (form_of_type t) ≡ Some one_part) like direct in cc)
  forms_ordered (ty (enum_type number) is_const) other first second p one_part later one_inner part like plain direct behind less there is =
      absurd (let h : direct_part types first (enum_type number) ≡ Some one_part = subst (λ t. direct_part types first (form_of_type t) ≡ Some one_part) like direct in cc)
  forms_ordered (ty (pointer to) is_const) other first second p one_part later one_inner part like plain direct behind less there is =
      absurd (let h : direct_part types first (pointer to) ≡ Some one_part = subst (λ t. direct_part types first (form_of_type t) ≡ Some one_part) like direct in cc)
  forms_ordered (ty (function result params variadic) is_const) other first second p one_part later one_inner part like plain direct behind less there is =
      absurd (let h : direct_part types first (function result params variadic) ≡ Some one_part = subst (λ t. direct_part types first (form_of_type t) ≡ Some one_part) like direct in cc)

  abbrev IsOrdered : List ℕ → Type 0
  IsOrdered p = (q : List ℕ) (type other found more : CTy) (part later : CPart) → IsLike type other → type_by types (Some type) p ≡ Some found → type_by types (Some type) q ≡ Some more
      → part_at types p other ≡ Some part → part_at types q other ≡ Some later → comes_before p q ≡ true → AreApart types type p q → first_of part ≤ first_of later

  if_false : {A : Type 0} (test : Bool) (one other : A) → test ≡ false → (if test then one else other) ≡ other
  if_false true one other is = absurd cc
  if_false false one other is = refl

  if_true : {A : Type 0} (test : Bool) (one other : A) → test ≡ true → (if test then one else other) ≡ one
  if_true true one other is = refl
  if_true false one other is = absurd cc

  same_test : (n : ℕ) → (n == n) ≡ true
  same_test n = grind (arith, nat_tests)

  other_test : (n m : ℕ) → (n == m) ≡ false → (m == n) ≡ false
  other_test n m is = grind (arith, nat_tests)

  -- the first parts are the same
  same_first : (index : ℕ) (p q : List ℕ) → IsOrdered p → (type other found more : CTy) (part later : CPart) → IsLike type other → IsStep types p index type other found part → IsStep types q index type other more later
      → comes_before (index ∷ p) (index ∷ q) ≡ true → AreApart types type (index ∷ p) (index ∷ q) → first_of part ≤ first_of later
  same_first index p q ordered type other found more part later like one two before apart =
      let same : one.outer ≡ two.outer = some_same one.outer two.outer (sym one.direct ∙ two.direct) in
      let inner_before : comes_before p q ≡ true = sym (if_true (index == index) (comes_before p q) (nat_lt index index) (same_test index)) ∙ before in
      let inner_apart : AreApart types one.outer.type p q =
      ⊎_elim
      (λ is. inl (sym (ap (λ found. takes_away types found q p) one.part_is)
      ∙ sym (if_true (index == index) (takes_away types (part_type types type index) q p) (is_union_type types type) (same_test index)) ∙ is))
      (λ is. inr (sym (ap (λ found. takes_away types found p q) one.part_is)
      ∙ sym (if_true (index == index) (takes_away types (part_type types type index) p q) (is_union_type types type) (same_test index)) ∙ is))
      apart in
      let held : first_of one.inner ≤ first_of two.inner =
      ordered q one.outer.type one.outer.type found more one.inner two.inner (like_itself one.outer.type) one.found_is
      (subst (λ o. type_by types (Some o.type) q ≡ Some more) (sym same) two.found_is) one.there (subst (λ o. part_at types q o.type ≡ Some two.inner) (sym same) two.there) inner_before inner_apart in
      let at : first_of part ≡ first_of one.outer + first_of one.inner = within_first one.outer one.inner part one.whole in
      let behind : first_of later ≡ first_of one.outer + first_of two.inner = within_first two.outer two.inner later two.whole ∙ ap (λ o. first_of o + first_of two.inner) (sym same) in
      omega (arith, held, at, behind)

  -- they are different
  other_first : (first second : ℕ) (p q : List ℕ) → (first == second) ≡ false → (type other found more : CTy) (part later : CPart) → IsLike type other → IsStep types p first type other found part
      → IsStep types q second type other more later → comes_before (first ∷ p) (second ∷ q) ≡ true → AreApart types type (first ∷ p) (second ∷ q) → first_of part ≤ first_of later
  other_first first second p q differ type other found more part later like one two before apart =
      let test : nat_lt first second ≡ true = sym (if_false (first == second) (comes_before p q) (nat_lt first second) differ) ∙ before in
      let less : first < second = grind (arith, nat_tests, test) in
      let plain : is_union_type types type ≡ false =
      ⊎_elim
      (λ is. sym (if_false (second == first) (takes_away types (part_type types type second) q p) (is_union_type types type) (other_test first second differ)) ∙ is)
      (λ is. sym (if_false (first == second) (takes_away types (part_type types type first) p q) (is_union_type types type) differ) ∙ is) apart in
      let held : first_of part ≤ first_of two.outer = forms_ordered type other first second p one.outer two.outer one.inner part like plain one.direct two.direct less one.there one.whole in
      let behind : first_of later ≡ first_of two.outer + first_of two.inner = within_first two.outer two.inner later two.whole in
      omega (arith, held, behind)

  by_first : (first second : ℕ) (test : Bool) → (first == second) ≡ test → (p q : List ℕ) → IsOrdered p → (type other found more : CTy) (part later : CPart) → IsLike type other
      → IsStep types p first type other found part → IsStep types q second type other more later → comes_before (first ∷ p) (second ∷ q) ≡ true → AreApart types type (first ∷ p) (second ∷ q)
      → first_of part ≤ first_of later
  by_first first second true e p q ordered type other found more part later like one two before apart =
      let same : second ≡ first = sym (number_is first second e) in
      same_first first p q ordered type other found more part later like one (subst (λ n. IsStep types q n type other more later) same two)
      (subst (λ n. comes_before (first ∷ p) (n ∷ q) ≡ true) same before) (subst (λ n. AreApart types type (first ∷ p) (n ∷ q)) same apart)
  by_first first second false e p q ordered type other found more part later like one two before apart = other_first first second p q e type other found more part later like one two before apart

  pub ordered : (p : List ℕ) → IsOrdered p
  ordered [] q type other found more part later like is also there behind before apart = (let e : first_of part ≡ 0 = first_none types other part there in omega (arith, e))
  ordered (first ∷ p) [] type other found more part later like is also there behind before apart = absurd cc
  ordered (first ∷ p) (second ∷ q) type other found more part later like is also there behind before apart =
      by_first first second (first == second) refl p q (ordered p) type other found more part later like (step_of types p first type other found part like is there)
      (step_of types q second type other more later like also behind) before apart
