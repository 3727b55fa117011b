-- A declaration of a tag by itself.
use Rattle.std.proofs.Common.{◌≡◌, refl, ◌&&◌, List, [], ◌∷◌, ℕ}
use Rattle.cx_declarations.specs.Walks.{declares_nothing, is_last, is_record_use, stands_alone}
use Rattle.cx_rules.specs.UnitWalk.{declares_tag}
use Rattle.cx_tree.specs.Trees.{SpecTree, Record, SpecTrees, no_specs, more_specs, no_members, InitDeclaratorTree}

alone_is : (first : SpecTree) (others : SpecTrees) (lines : List ℕ) → (is_last others && is_record_use first) ≡ declares_tag (record { specs = more_specs first others; list = []; lines = lines })
alone_is (Record is_union name no_members own) no_specs lines = refl
alone_is (Record is_union name no_members own) (more_specs second others) lines = refl
alone_is (Record is_union name _ own) no_specs lines = refl
alone_is (Record is_union name _ own) (more_specs second others) lines = refl
alone_is _ no_specs lines = refl
alone_is _ (more_specs second others) lines = refl

tag_by : (list : List InitDeclaratorTree) (specs : SpecTrees) (lines : List ℕ) → (declares_nothing list && stands_alone specs) ≡ declares_tag (record { specs = specs; list = list; lines = lines })
tag_by [] no_specs lines = refl
tag_by [] (more_specs first others) lines = alone_is first others lines
tag_by (one ∷ list) specs lines = refl

pub tag_is : (list : List InitDeclaratorTree) (specs : SpecTrees) (lines : List ℕ) → (declares_nothing list && stands_alone specs) ≡ declares_tag (record { specs = specs; list = list; lines = lines })
tag_is list specs lines = tag_by list specs lines
