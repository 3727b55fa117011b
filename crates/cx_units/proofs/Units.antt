-- What units break: that the causes exclude each other, and what the steps find.
use Rattle.std.proofs.Common.{rules, arith, ◌≡◌, ℕ, zero, suc, ◌+◌, ◌<◌, ◌≤◌, ◌⊎◌, inl, inr, List, [], ◌∷◌, ◌++◌, map, take, length, Option, Some, None, option_map, refl, sym, ap, ◌∙◌, subst, slice_get, unwrap_or}
use Rattle.cr_base.specs.declared.refusal.Refusal.{Refusal}
use Rattle.cr_base.specs.declared.rule.Rule.{Rule}
use Rattle.cr_base.specs.declared.rule.Rule.TheVariants.{S1, M1}
use Rattle.cx_core.specs.Trees.{CUnit}
use Rattle.cx_lex.specs.declared.token.Token.{Token}
use Rattle.cx_lex.specs.Tokens.{Spells, token_fault}
use Rattle.cx_lex.proofs.SpellLemmas.{spell_once, spell_or_break}
use Rattle.cx_links.specs.Rules.{broken_links}
use Rattle.cx_parse.proofs.Parsed.{one_tree}
use Rattle.cx_rules.specs.Units.{broken_unit, seen_unit}
use Rattle.cx_tree.specs.Derives.{Derives}
use Rattle.cx_tree.specs.Trees.{UnitTree}
use Rattle.cx_units.specs.Broken.{HasTreeAs, HasTree, IsTypedAs, AreTyped, AreSound, AreUnbroken, told_at, BreaksSize, BreaksTokens, BreaksSyntax, BreaksNode, BreaksUnit, BreaksFirst, BreaksTogether, FirstBroken, most_bytes}
use Rattle.cx_units.specs.Laws.{OneIsFirst, OneMeaning, UnbrokenBreaksNone}

-- ---- one tree, and one typed unit

tree_once : (bytes : List ℕ) (a b : UnitTree) → HasTreeAs bytes a → HasTreeAs bytes b → a ≡ b
tree_once bytes a b one other =
    one_tree other.tokens a b (subst (λ (tokens : List Token). Derives tokens a) (spell_once bytes one.tokens other.tokens one.spelled other.spelled) one.derived) other.derived

some_once : {X : Type 0} (x y : X) (o : Option X) → o ≡ Some x → o ≡ Some y → x ≡ y
some_once {X = X} x y o one other = ap (λ (p : Option X). unwrap_or p x) (sym one ∙ other)

typed_once : (number : ℕ) (bytes : List ℕ) (a b : CUnit) → IsTypedAs number bytes a → IsTypedAs number bytes b → a ≡ b
typed_once number bytes a b one other =
    sym one.meaning ∙ ap (λ (tree : UnitTree). (seen_unit number tree).meaning) (tree_once bytes one.tree other.tree one.read other.read) ∙ other.meaning

pub all_once : (number : ℕ) (units : List (List ℕ)) (ones others : List CUnit) → AreTyped number units ones → AreTyped number units others → ones ≡ others
all_once number [] [] [] one other = refl
all_once number [] [] (b ∷ bs) one other = absurd other
all_once number [] (a ∷ cores) others one other = absurd one
all_once number (unit ∷ units) [] others one other = absurd one
all_once number (unit ∷ units) (a ∷ cores) [] one other = absurd other
all_once number (unit ∷ units) (a ∷ cores) (b ∷ bs) one other =
    ap (λ (core : CUnit). core ∷ cores) (typed_once number unit a b one.0 other.0) ∙ ap (λ (rest : List CUnit). b ∷ rest) (all_once (suc number) units cores bs one.1 other.1)

-- ---- a sound unit breaks nothing

none_some : {X : Type 0} (o : Option X) (x : X) → o ≡ None → o ≡ Some x → ⊥
none_some o x none some = cc

-- where a node is broken there is no typed unit
untyped : (number : ℕ) (tree : UnitTree) (rule : Rule) (line : ℕ) → broken_unit number tree ≡ None → told_at (broken_unit number tree) ≡ Some (rule, line) → ⊥
untyped number tree rule line unbroken broken = none_some (told_at (broken_unit number tree)) (rule, line) (ap told_at unbroken) broken

pub sound_unbroken : (number : ℕ) (bytes : List ℕ) (core : CUnit) (rule : Rule) (line : ℕ) → IsTypedAs number bytes core → BreaksUnit number bytes rule line → ⊥
sound_unbroken number bytes core rule line sound broken = elim broken [
  | inl size ↦
      let small = sound.small in
      let large = size.large in
      omega (arith, small, large)
  | inr other ↦ elim other [
    | inl tokens ↦ none_some (token_fault bytes) (rule, line) ((spell_or_break bytes).0 (sound.read.tokens, sound.read.spelled)) tokens.fault
    | inr later ↦ elim later [
      | inl syntax ↦ syntax.none (sound.tree, sound.read)
      | inr node ↦ untyped number node.tree rule line
          (ap (λ (tree : UnitTree). broken_unit number tree) (tree_once bytes node.tree sound.tree node.read sound.read) ∙ sound.unbroken) node.broken
    ]
  ]
]

-- ---- one cause

size_tokens : {P : Type 0} (bytes : List ℕ) → most_bytes < length bytes → length bytes ≤ most_bytes → P
size_tokens bytes large small = absurd (omega (arith, small, large))

same_rule : (a b rule : Rule) → a ≡ rule → b ≡ rule → a ≡ b
same_rule a b rule one other = one ∙ sym other

first_part : {A B : Type 0} (a c : A) (b d : B) (o : Option (A × B)) → o ≡ Some (a, b) → o ≡ Some (c, d) → a ≡ c
first_part a c b d o one other = ap (λ pair. pair.0) (some_once (a, b) (c, d) o one other)

pub one_cause : (number : ℕ) (bytes : List ℕ) (a b : Rule) (m n : ℕ) → BreaksUnit number bytes a m → BreaksUnit number bytes b n → a ≡ b
one_cause number bytes a b m n one other = elim one [
  | inl size ↦ by_size size other
  | inr more ↦ elim more [
    | inl tokens ↦ by_tokens tokens other
    | inr later ↦ elim later [ inl syntax ↦ by_syntax syntax other | inr node ↦ by_node node other ]
  ]
] where
  by_size : BreaksSize bytes a m → BreaksUnit number bytes b n → a ≡ b
  by_size size broken = elim broken [
    | inl again ↦ same_rule a b M1 size.rule_is again.rule_is
    | inr more ↦ elim more [
      | inl tokens ↦ size_tokens bytes size.large tokens.small
      | inr later ↦ elim later [ inl syntax ↦ size_tokens bytes size.large syntax.small | inr node ↦ size_tokens bytes size.large node.small ]
    ]
  ]

  by_tokens : BreaksTokens bytes a m → BreaksUnit number bytes b n → a ≡ b
  by_tokens tokens broken = elim broken [
    | inl size ↦ size_tokens bytes size.large tokens.small
    | inr more ↦ elim more [
      | inl again ↦ first_part a b m n (token_fault bytes) tokens.fault again.fault
      | inr later ↦ elim later [
        | inl syntax ↦ absurd (none_some (token_fault bytes) (a, m) syntax.spelled tokens.fault)
        | inr node ↦ absurd (none_some (token_fault bytes) (a, m) ((spell_or_break bytes).0 (node.read.tokens, node.read.spelled)) tokens.fault)
      ]
    ]
  ]

  by_syntax : BreaksSyntax bytes a m → BreaksUnit number bytes b n → a ≡ b
  by_syntax syntax broken = elim broken [
    | inl size ↦ size_tokens bytes size.large syntax.small
    | inr more ↦ elim more [
      | inl tokens ↦ absurd (none_some (token_fault bytes) (b, n) syntax.spelled tokens.fault)
      | inr later ↦ elim later [ inl again ↦ same_rule a b S1 syntax.rule_is again.rule_is | inr node ↦ absurd (syntax.none (node.tree, node.read)) ]
    ]
  ]

  by_node : BreaksNode number bytes a m → BreaksUnit number bytes b n → a ≡ b
  by_node node broken = elim broken [
    | inl size ↦ size_tokens bytes size.large node.small
    | inr more ↦ elim more [
      | inl tokens ↦ absurd (none_some (token_fault bytes) (b, n) ((spell_or_break bytes).0 (node.read.tokens, node.read.spelled)) tokens.fault)
      | inr later ↦ elim later [
        | inl syntax ↦ absurd (syntax.none (node.tree, node.read))
        | inr again ↦ first_part a b m n (told_at (broken_unit number again.tree))
            (ap (λ (tree : UnitTree). told_at (broken_unit number tree)) (tree_once bytes again.tree node.tree again.read node.read) ∙ node.broken) again.broken
      ]
    ]
  ]

-- ---- units at their places

next_number : (number k : ℕ) → k + suc number ≡ suc k + number
next_number number k = omega arith

pub typed_at : (number : ℕ) (units : List (List ℕ)) (cores : List CUnit) (k : ℕ) (bytes : List ℕ) → AreTyped number units cores → slice_get units k ≡ Some bytes
    → (core : CUnit) × IsTypedAs (k + number) bytes core
typed_at number [] cores k bytes typed is = cc
typed_at number (unit ∷ units) [] k bytes typed is = absurd typed
typed_at number (unit ∷ units) (core ∷ cores) zero bytes typed is =
    (core, subst (λ (n : ℕ). IsTypedAs n bytes core) (zero_before number) (subst (λ (b : List ℕ). IsTypedAs number b core) (ap (λ o. unwrap_or o bytes) is) typed.0)) where
      zero_before : (n : ℕ) → n ≡ 0 + n
      zero_before n = omega arith
typed_at number (unit ∷ units) (core ∷ cores) (suc k) bytes typed is =
    let there = typed_at (suc number) units cores k bytes typed.1 is in
    (there.0, subst (λ (n : ℕ). IsTypedAs n bytes there.0) (next_number number k) there.1)

pub sound_at : (units : List (List ℕ)) (k : ℕ) (bytes : List ℕ) → AreSound 0 units → slice_get units k ≡ Some bytes → (core : CUnit) × IsTypedAs k bytes core
sound_at units k bytes sound is =
    let there = typed_at 0 units sound.0 k bytes sound.1 is in
    (there.0, subst (λ (n : ℕ). IsTypedAs n bytes there.0) (zero_behind k) there.1) where
      zero_behind : (n : ℕ) → n + 0 ≡ n
      zero_behind n = omega arith

get_taken : (units : List (List ℕ)) (k n : ℕ) → k < n → slice_get (take n units) k ≡ slice_get units k
get_taken units k zero less = absurd (omega (arith, less))
get_taken [] k (suc n) less = refl
get_taken (unit ∷ units) zero (suc n) less = refl
get_taken (unit ∷ units) (suc k) (suc n) less = get_taken units k n (omega (arith, less))

-- a unit in front of the first that breaks a rule breaks none
not_before : (units : List (List ℕ)) (one : Refusal) (k : ℕ) (bytes : List ℕ) (rule : Rule) (line : ℕ) → BreaksFirst units one → k < one.unit
    → slice_get units k ≡ Some bytes → BreaksUnit k bytes rule line → ⊥
not_before units one k bytes rule line first less is broken =
    let sound = sound_at (take one.unit units) k bytes first.before (get_taken units k one.unit less ∙ is) in
    sound_unbroken k bytes sound.0 rule line sound.1 broken

one_unit : (units : List (List ℕ)) (one other : Refusal) → BreaksFirst units one → BreaksFirst units other → one.unit ≡ other.unit
one_unit units one other first second = by (lt_cases one.unit other.unit) where
  lt_cases : (m n : ℕ) → (m < n) ⊎ ((n < m) ⊎ (m ≡ n))
  lt_cases m n = grind (arith)

  by : (one.unit < other.unit) ⊎ ((other.unit < one.unit) ⊎ (one.unit ≡ other.unit)) → one.unit ≡ other.unit
  by (inl less) = absurd (not_before units other one.unit first.bytes one.rule one.line second less first.unit first.broken)
  by (inr (inl more)) = absurd (not_before units one other.unit second.bytes other.rule other.line first more second.unit second.broken)
  by (inr (inr same)) = same

one_first : (units : List (List ℕ)) (one other : Refusal) → BreaksFirst units one → BreaksFirst units other → (one.rule ≡ other.rule) × (one.unit ≡ other.unit)
one_first units one other first second =
    let same = one_unit units one other first second in
    let bytes : first.bytes ≡ second.bytes = some_once first.bytes second.bytes (slice_get units other.unit) (ap (slice_get units) (sym same) ∙ first.unit) second.unit in (
      one_cause other.unit second.bytes one.rule other.rule one.line other.line
          (subst (λ (b : List ℕ). BreaksUnit other.unit b one.rule one.line) bytes (subst (λ (n : ℕ). BreaksUnit n first.bytes one.rule one.line) same first.broken)) second.broken,
      same,
    )

typed_unbroken : (units : List (List ℕ)) (cores : List CUnit) (one : Refusal) → AreTyped 0 units cores → BreaksFirst units one → ⊥
typed_unbroken units cores one typed first =
    let sound = sound_at units one.unit first.bytes (cores, typed) first.unit in
    sound_unbroken one.unit first.bytes sound.0 one.rule one.line sound.1 first.broken

together_once : (units : List (List ℕ)) (one other : Refusal) → BreaksTogether units one → BreaksTogether units other → one ≡ other
together_once units one other first second =
    some_once one other (broken_links second.cores)
    (ap broken_links (sym (all_once 0 units first.cores second.cores first.typed second.typed)) ∙ first.broken) second.broken

pub one_is_first : OneIsFirst
one_is_first units one other first second = elim first [
  | inl alone ↦ elim second [ inl again ↦ one_first units one other alone again | inr together ↦ absurd (typed_unbroken units together.cores one together.typed alone) ]
  | inr together ↦ elim second [
    | inl alone ↦ absurd (typed_unbroken units together.cores other together.typed alone)
    | inr again ↦
        let same = together_once units one other together again in
        (ap (λ (r : Refusal). r.rule) same, ap (λ (r : Refusal). r.unit) same)
  ]
]

pub unbroken_breaks_none : UnbrokenBreaksNone
unbroken_breaks_none units cores refusal unbroken first = elim first [
  | inl alone ↦ typed_unbroken units cores refusal unbroken.typed alone
  | inr together ↦ none_some (broken_links cores) refusal unbroken.linked (ap broken_links (all_once 0 units cores together.cores unbroken.typed together.typed) ∙ together.broken)
]

pub one_meaning : OneMeaning
one_meaning units ones others one other = all_once 0 units ones others one.typed other.typed
