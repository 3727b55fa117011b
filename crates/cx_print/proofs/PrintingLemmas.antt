-- Lists that grow.
use Rattle.std.proofs.Common.{◌≡◌, List, [], ◌++◌, Option, Some, None, refl, sym, ap, ◌∙◌, append_assoc, append-nil}
use Rattle.cx_print.specs.Printing.{Appends, grown}
use Rattle.cx_tree.specs.declared.declarator.Brackets.TheFolds.{fold_out-Brackets, fold-roll-Brackets, fold_out-Declarator, fold-roll-Declarator}
use Rattle.cx_tree.specs.declared.declarator.Brackets.TheViews.{the_lemmas}

pub nothing_more : {A : Type 0} (a : Option (List A)) → Appends a a []
nothing_more None = tt
nothing_more (Some a) = sym (append-nil a)

pub then : {A : Type 0} (a b c : Option (List A)) (x y z : List A) → Appends a b x → Appends b c y → x ++ y ≡ z → Appends a c z
then a b None x y z first second same = tt
then a None (Some c) x y z first second same = absurd second
then None (Some b) (Some c) x y z first second same = absurd first
then (Some a) (Some b) (Some c) x y z first second same = second ∙ ap (λ l. l ++ y) first ∙ append_assoc a x y ∙ ap (λ l. a ++ l) same

-- ---- loops: what is printed and what is left are the whole

pub loop_begins : {A : Type 0} (a : Option (List A)) (x y : List A) → x ≡ y → Appends a (grown a x) y
loop_begins None x y same = tt
loop_begins (Some a) x y same = ap (λ l. a ++ l) same

pub loop_goes_on : {A : Type 0} (a b c : Option (List A)) (rest more left all : List A) →
    Appends a (grown b rest) all → Appends b c more → rest ≡ more ++ left → Appends a (grown c left) all
loop_goes_on a b None rest more left all sofar step same = tt
loop_goes_on a None (Some c) rest more left all sofar step same = absurd step
loop_goes_on None (Some b) (Some c) rest more left all sofar step same = absurd sofar
loop_goes_on (Some a) (Some b) (Some c) rest more left all sofar step same =
    ap (λ l. l ++ left) step ∙ append_assoc b more left ∙ ap (λ l. b ++ l) (sym same) ∙ sofar

pub loop_ends : {A : Type 0} (a b c : Option (List A)) (rest more all : List A) → Appends a (grown b rest) all → Appends b c more → rest ≡ more → Appends a c all
loop_ends a b None rest more all sofar step same = tt
loop_ends a None (Some c) rest more all sofar step same = absurd step
loop_ends None (Some b) (Some c) rest more all sofar step same = absurd sofar
loop_ends (Some a) (Some b) (Some c) rest more all sofar step same = step ∙ ap (λ l. b ++ l) (sym same) ∙ sofar

-- what no loop prints
pub ruleset printing = (nothing_more, then)

pub ruleset printing_loop = (printing, loop_begins, loop_goes_on, loop_ends)

-- and the forms of declarators and of brackets
pub ruleset printing_declarators = (printing, the_lemmas, fold_out-Declarator, fold-roll-Declarator)

pub ruleset printing_brackets = (printing, the_lemmas, fold_out-Brackets, fold-roll-Brackets)
