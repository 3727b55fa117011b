-- Numbers of objects of statements behind and in one another, and of literals (ISO C99, 6.2.4, 6.5.2.5p6).
use Rattle.std.proofs.Common.{◌≡◌, ◌⊎◌, inl, inr, ℕ, zero, suc, ◌+◌, ◌==◌, ◌<◌, ◌≤◌, nat_lt, Bool, true, false, if◌then◌else◌, List, [], ◌∷◌, ◌++◌, length, drop, Option, None, Some, is_none, slice_get, refl, sym, ap, ◌∙◌, subst, append_assoc, arith}
use Rattle.std.proofs.lemmas.Bool.Decides.{nat_tests}
use Rattle.cx_core.specs.Statements.{objects_in, objects_in_form, objects_in_list}
use Rattle.cx_core.specs.Trees.{CPuts, CStmt, stmt, begin, label, case, default, block, expression, if_then, switch, while, do_while, for_loop, goto, continue, break, returns}
use Rattle.cx_rules.specs.Scope.{CMade, CScope}
use Rattle.cx_rules.specs.UnitWalk.{stmts_of, as_block, literals_since}
use Rattle.cx_typed.proofs.Numbered.{numbers_by}
use Rattle.cx_typed.proofs.Same.{number_is}
use Rattle.cx_typed.specs.Scopes.{TakesNumbers}
use Rattle.cx_typed_units.specs.Once.{times, AreOnce}
use Rattle.cx_typed_units.specs.Statements.{AreBegun}

-- ---- how often a number stands in lists

pub times_both : (n : ℕ) (xs ys : List ℕ) → times n (xs ++ ys) ≡ times n xs + times n ys
times_both n [] ys = (let h : 0 + times n ys ≡ times n ys = omega arith in sym h)
times_both n (x ∷ xs) ys = by_test (n == x) (times_both n xs ys)
  where
    by_test : (b : Bool) → times n (xs ++ ys) ≡ times n xs + times n ys
        → (if b then suc (times n (xs ++ ys)) else times n (xs ++ ys)) ≡ (if b then suc (times n xs) else times n xs) + times n ys
    by_test true e = omega (arith, e)
    by_test false e = e

less_or : (n b : ℕ) → (n < b) ⊎ (b ≤ n)
less_or n b = by_test (nat_lt n b) refl
  where
    by_test : (test : Bool) → nat_lt n b ≡ test → (n < b) ⊎ (b ≤ n)
    by_test true e = inl (grind (arith, nat_tests, e))
    by_test false e = inr (grind (arith, nat_tests, e))

pub once_none : (a b : ℕ) → a ≤ b → AreOnce a b []
once_none a b more = record { grows = more; once = λ n. omega arith; low = λ n is. refl; high = λ n is. refl }

pub once_as : (a b : ℕ) (xs ys : List ℕ) → ((n : ℕ) → times n ys ≡ times n xs) → AreOnce a b xs → AreOnce a b ys
once_as a b xs ys same held = record {
  grows = held.grows;
  once = λ n. let e = same n in let h = held.once n in omega (arith, e, h);
  low = λ n is. same n ∙ held.low n is;
  high = λ n is. same n ∙ held.high n is;
}

pub once_later : (a b c : ℕ) (xs : List ℕ) → a ≤ b → AreOnce b c xs → AreOnce a c xs
once_later a b c xs more held = record {
  grows = (let h = held.grows in omega (arith, h, more));
  once = held.once;
  low = λ n is. held.low n (omega (arith, is, more));
  high = held.high;
}

pub once_sooner : (a b c : ℕ) (xs : List ℕ) → b ≤ c → AreOnce a b xs → AreOnce a c xs
once_sooner a b c xs more held = record {
  grows = (let h = held.grows in omega (arith, h, more));
  once = held.once;
  low = held.low;
  high = λ n is. held.high n (omega (arith, is, more));
}

pub once_both : (a b c : ℕ) (xs ys : List ℕ) → AreOnce a b xs → AreOnce b c ys → AreOnce a c (xs ++ ys)
once_both a b c xs ys first second = record {
  grows = (let h = first.grows in let k = second.grows in omega (arith, h, k));
  once = λ n. by_place n (less_or n b);
  low = λ n is.
      let h = first.grows in
      let e = times_both n xs ys in
      let one = first.low n is in
      let two = second.low n (omega (arith, is, h)) in omega (arith, e, one, two);
  high = λ n is.
      let h = second.grows in
      let e = times_both n xs ys in
      let one = first.high n (omega (arith, is, h)) in
      let two = second.high n is in omega (arith, e, one, two);
}
  where
    by_place : (n : ℕ) → (n < b) ⊎ (b ≤ n) → times n (xs ++ ys) ≤ 1
    by_place n (inl less) = let e = times_both n xs ys in let one = first.once n in let two = second.low n less in omega (arith, e, one, two)
    by_place n (inr more) = let e = times_both n xs ys in let one = first.high n more in let two = second.once n in omega (arith, e, one, two)

-- the numbers that were taken first stand behind
pub once_turned : (a b c : ℕ) (xs ys : List ℕ) → AreOnce a b xs → AreOnce b c ys → AreOnce a c (ys ++ xs)
once_turned a b c xs ys first second =
    once_as a c (xs ++ ys) (ys ++ xs) (λ n. let e = times_both n xs ys in let k = times_both n ys xs in omega (arith, e, k)) (once_both a b c xs ys first second)

pub once_first : (a m c : ℕ) (xs : List ℕ) → a ≤ m → AreOnce (suc m) c xs → AreOnce a c (m ∷ xs)
once_first a m c xs more held = record {
  grows = (let h = held.grows in omega (arith, h, more));
  once = λ n. by_test n (n == m) refl;
  low = λ n is. not_there n (n == m) refl (λ same. omega (arith, same, is, more)) (held.low n (omega (arith, is, more)));
  high = λ n is. not_there n (n == m) refl (λ same. let h = held.grows in omega (arith, same, is, h)) (held.high n is);
}
  where
    by_test : (n : ℕ) (b : Bool) → (n == m) ≡ b → (if b then suc (times n xs) else times n xs) ≤ 1
    by_test n true e = let same : n ≡ m = number_is n m e in let h = held.low n (omega (arith, same)) in omega (arith, h)
    by_test n false e = held.once n

    not_there : (n : ℕ) (b : Bool) → (n == m) ≡ b → (n ≡ m → ⊥) → times n xs ≡ 0 → (if b then suc (times n xs) else times n xs) ≡ 0
    not_there n true e apart held = absurd (apart (number_is n m e))
    not_there n false e apart held = held

-- ---- literals

-- as `UnitWalk` says it
abbrev blocks_of : List CMade → List ℕ
blocks_of [] = []
blocks_of (made ∷ others) = if is_none made.fixed then made.object ∷ blocks_of others else blocks_of others

put_first : (found : Option CPuts) (a m c : ℕ) (xs : List ℕ) → a ≤ m → AreOnce (suc m) c xs → AreOnce a c (if is_none found then m ∷ xs else xs)
put_first None a m c xs more held = once_first a m c xs more held
put_first (Some puts) a m c xs more held = once_later a (suc m) c xs (omega (arith, more)) held

all_once : (all : List CMade) (from to : ℕ) → from ≤ to → ((n : ℕ) (one : CMade) → slice_get all n ≡ Some one → (from ≤ one.object) × (one.object < to))
    → ((first second : ℕ) (one other : CMade) → first < second → slice_get all first ≡ Some one → slice_get all second ≡ Some other → one.object < other.object) → AreOnce from to (blocks_of all)
all_once [] from to more bounds order = once_none from to more
all_once (made ∷ others) from to more bounds order =
    let own = bounds 0 made refl in
    let under : made.object < to = own.1 in
    put_first made.fixed from made.object to (blocks_of others) own.0
    (all_once others (suc made.object) to (omega (arith, under)) (λ n one is. (let h : made.object < one.object = order 0 (suc n) made one (omega arith) refl is in omega (arith, h), (bounds (suc n) one is).1))
    (λ first second one other less is there. order (suc first) (suc second) one other (omega (arith, less)) is there))

since_once : (count : ℕ) (all : List CMade) (from to : ℕ) → from ≤ to → ((n : ℕ) (one : CMade) → count ≤ n → slice_get all n ≡ Some one → (from ≤ one.object) × (one.object < to))
    → ((first second : ℕ) (one other : CMade) → count ≤ first → first < second → slice_get all first ≡ Some one → slice_get all second ≡ Some other → one.object < other.object)
    → AreOnce from to (blocks_of (drop count all))
since_once zero all from to more bounds order = all_once all from to more (λ n one is. bounds n one (omega arith) is) (λ first second one other less is there. order first second one other (omega arith) less is there)
since_once (suc count) [] from to more bounds order = once_none from to more
since_once (suc count) (made ∷ all) from to more bounds order =
    since_once count all from to more (λ n one above is. bounds (suc n) one (omega (arith, above)) is)
    (λ first second one other above less is there. order (suc first) (suc second) one other (omega (arith, above)) (omega (arith, less)) is there)

pub literals_once : (before after : CScope) → TakesNumbers before after → AreOnce before.next_object after.next_object (literals_since before after)
literals_once before after takes =
    since_once (length before.literals) after.literals before.next_object after.next_object takes.grows takes.literals
    (λ first second one other above less is there. takes.in_order first second one other above less is there)

-- ---- statements

-- a block holds the objects of the statement that it is
pub block_once : (a b : ℕ) (objects : List ℕ) (one : CStmt) → AreOnce a b (objects ++ objects_in one) → AreOnce a b (objects_in (as_block (record { stmt = one; objects = objects })))
block_once a b objects (stmt place own form) held = subst (AreOnce a b) (sym (append_assoc objects own (objects_in_form form))) held

objects_joined : (some more : List CStmt) → objects_in_list (stmts_of (some ++ more)) ≡ objects_in_list (stmts_of some) ++ objects_in_list (stmts_of more)
objects_joined [] more = refl
objects_joined (one ∷ some) more =
    ap (λ rest. objects_in one ++ rest) (objects_joined some more) ∙ sym (append_assoc (objects_in one) (objects_in_list (stmts_of some)) (objects_in_list (stmts_of more)))

-- statements behind one another
pub items_once : (a b c : ℕ) (objects others : List ℕ) (some more : List CStmt) → AreOnce a b (objects ++ objects_in_list (stmts_of some)) → AreOnce b c (others ++ objects_in_list (stmts_of more))
    → AreOnce a c ((objects ++ others) ++ objects_in_list (stmts_of (some ++ more)))
items_once a b c objects others some more first second =
    let xs = objects_in_list (stmts_of some) in
    let ys = objects_in_list (stmts_of more) in
    once_as a c ((objects ++ xs) ++ (others ++ ys)) ((objects ++ others) ++ objects_in_list (stmts_of (some ++ more)))
    (λ n.
    let e1 = times_both n (objects ++ others) (objects_in_list (stmts_of (some ++ more))) in
    let e2 = times_both n objects others in
    let e3 : times n (objects_in_list (stmts_of (some ++ more))) ≡ times n (xs ++ ys) = ap (times n) (objects_joined some more) in
    let e4 = times_both n xs ys in
    let e5 = times_both n (objects ++ xs) (others ++ ys) in
    let e6 = times_both n objects xs in
    let e7 = times_both n others ys in
    omega (arith, e1, e2, e3, e4, e5, e6, e7)) (once_both a b c (objects ++ xs) (others ++ ys) first second)

pub append_none : (xs : List ℕ) → xs ++ [] ≡ xs
append_none [] = refl
append_none (x ∷ xs) = ap (λ rest. x ∷ rest) (append_none xs)

-- what a `for` statement begins with, the literals of its clauses, and its body
pub for_once : (a b c d : ℕ) (objects literals firsts inner : List ℕ) → AreOnce a b (objects ++ firsts) → AreOnce b c literals → AreOnce c d inner → AreOnce a d ((objects ++ literals) ++ (firsts ++ inner))
for_once a b c d objects literals firsts inner first second third =
    once_as a d ((objects ++ firsts) ++ (literals ++ inner)) ((objects ++ literals) ++ (firsts ++ inner))
    (λ n.
    let e1 = times_both n (objects ++ literals) (firsts ++ inner) in
    let e2 = times_both n objects literals in
    let e3 = times_both n firsts inner in
    let e4 = times_both n (objects ++ firsts) (literals ++ inner) in
    let e5 = times_both n objects firsts in
    let e6 = times_both n literals inner in
    omega (arith, e1, e2, e3, e4, e5, e6)) (once_both a b d (objects ++ firsts) (literals ++ inner) first (once_both b c d literals inner second third))

pub plain_once : (a b : ℕ) (xs : List ℕ) → AreOnce a b xs → AreOnce a b (xs ++ [])
plain_once a b xs held = subst (AreOnce a b) (sym (append_none xs)) held

-- where no literal is made
pub nothing_once : (before after : CScope) → after.literals ≡ before.literals → before.next_object ≤ after.next_object → AreOnce before.next_object after.next_object (literals_since before after)
nothing_once before after same more = literals_once before after (numbers_by before after more same)

pub begun_none : (all : List CStmt) → AreBegun all → objects_in_list (stmts_of all) ≡ []
begun_none [] begun = refl
begun_none (stmt place objects (begin number puts) ∷ all) begun =
    ap (λ own. (own ++ []) ++ objects_in_list (stmts_of all)) begun.0 ∙ begun_none all begun.1
begun_none (stmt place objects (label name inner) ∷ all) begun = absurd begun.0
begun_none (stmt place objects (case value inner) ∷ all) begun = absurd begun.0
begun_none (stmt place objects (default inner) ∷ all) begun = absurd begun.0
begun_none (stmt place objects (block stmts) ∷ all) begun = absurd begun.0
begun_none (stmt place objects (expression value) ∷ all) begun = absurd begun.0
begun_none (stmt place objects (if_then test inner otherwise) ∷ all) begun = absurd begun.0
begun_none (stmt place objects (switch value inner) ∷ all) begun = absurd begun.0
begun_none (stmt place objects (while test inner) ∷ all) begun = absurd begun.0
begun_none (stmt place objects (do_while inner test) ∷ all) begun = absurd begun.0
begun_none (stmt place objects (for_loop first test next inner) ∷ all) begun = absurd begun.0
begun_none (stmt place objects (goto name) ∷ all) begun = absurd begun.0
begun_none (stmt place objects continue ∷ all) begun = absurd begun.0
begun_none (stmt place objects break ∷ all) begun = absurd begun.0
begun_none (stmt place objects (returns value) ∷ all) begun = absurd begun.0
