-- The typed unit, part by part.
use Rattle.std.proofs.Common.{◌≡◌, refl, ap, ◌∙◌, List, [], map}
use Rattle.cx_core.specs.Trees.{CKey, CMention, CObject, COuter}
use Rattle.cx_rules.specs.Declare.{unit_of}
use Rattle.cx_rules.specs.Scope.{CScope}
use Rattle.cx_unit_ends.specs.Ends as ends

pub unit_is : (scope : CScope)
    → ends.unit_with scope (ends.objects_of scope.unit scope.things scope.objects scope.literals) (ends.outers_of scope.things) (map (ends.final_mention scope.things) scope.mentions) (map ends.key_of scope.things) ≡ unit_of scope
unfolding unit_of
unit_is scope = refl

abbrev without_mentions : CScope → CScope
without_mentions scope = record scope { mentions = [] }

abbrev without_objects : CScope → CScope
without_objects scope = record scope { objects = []; literals = [] }

pub objects_taken : (scope left : CScope) (objects : List CObject) (externals : List COuter) (mentions : List CMention) (keys : List CKey) → left ≡ without_objects scope
    → objects ≡ ends.objects_of scope.unit scope.things scope.objects scope.literals → ends.unit_with left objects externals mentions keys ≡ ends.unit_by scope externals mentions keys
objects_taken scope left objects externals mentions keys e o =
    ap (λ (rest : CScope). ends.unit_with rest objects externals mentions keys) e ∙ ap (λ all. ends.unit_with scope all externals mentions keys) o

pub mentions_taken : (scope left : CScope) (externals : List COuter) (mentions : List CMention) (keys : List CKey) → left ≡ without_mentions scope
    → mentions ≡ map (ends.final_mention scope.things) scope.mentions → ends.unit_by left externals mentions keys ≡ ends.unit_behind scope externals keys
mentions_taken scope left externals mentions keys e m =
    ap (λ (rest : CScope). ends.unit_by rest externals mentions keys) e ∙ ap (λ all. ends.unit_by scope externals all keys) m
