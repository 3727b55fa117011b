-- Steps between external declarations (ISO C99, 6.9).
use Rattle.std.proofs.Common.{◌≡◌, ℕ, Bool, true, false, ◌&&◌, ◌||◌, if◌then◌else◌, List, Option, None, Some, refl, ◌∙◌, subst, arith, sym, ◌≤◌}
use Rattle.cx_core.specs.declared.program.Linkage.{Linkage}
use Rattle.cx_core.specs.declared.program.Linkage.TheVariants.{External, Internal, Nothing}
use Rattle.cx_core.specs.Linked.{block_objects}
use Rattle.cx_core.specs.Trees.{CTy, CFun}
use Rattle.cx_core.specs.Typing.{CHome}
use Rattle.cx_lex.specs.declared.token.Keyword.TheVariants as keyword
use Rattle.cx_rules.specs.declared.kinds.SpecsPlace.TheVariants.{File}
use Rattle.cx_rules.specs.Declare.{is_linked, is_typedef, linkage_of}
use Rattle.cx_rules.specs.Scope.{CMeant, an_object, a_function, CScope, new_scope}
use Rattle.cx_rules.specs.Shapes.{CSpecs, has_storage}
use Rattle.cx_rules.specs.Types.{is_function}
use Rattle.cx_typed.proofs.Scopes.{grows_on}
use Rattle.cx_typed.specs.Growth.{Grows}
use Rattle.cx_typed.specs.Walked.{IsGood}
use Rattle.cx_typed_files.specs.FileScope.{IsAtFileScope}
use Rattle.cx_typed_units.proofs.Blocks.{all_on}
use Rattle.cx_typed_units.proofs.Once.{once_sooner}
use Rattle.cx_typed_units.proofs.Stretches.{Steps, backs_earlier, backs_first}
use Rattle.cx_typed_units.specs.Once.{AreOnce}
use Rattle.cx_typed_units.specs.Stretches.{DeclaresNone, Leads, Backs}

-- objects of the same functions, at a later place
pub functions_once : (few many : ℕ) (before after : List CFun) → few ≤ many → after ≡ before → AreOnce 0 few (block_objects before) → AreOnce 0 many (block_objects after)
functions_once few many before after more same held = once_sooner 0 few many (block_objects after) more (subst (λ functions. AreOnce 0 few (block_objects functions)) (sym same) held)

-- what an external declaration does to a scope
pub record IsFileStep (opens : List ℕ) (before after : CScope) : Type 0 where
  pub at : IsAtFileScope opens after
  pub unit_is : after.unit ≡ before.unit
  pub grows : Grows opens before.types after.types

pub file_then : (opens : List ℕ) (before middle after : CScope) → after.unit ≡ middle.unit → middle.unit ≡ before.unit → Grows opens before.types middle.types → IsFileStep opens middle after → IsFileStep opens before after
file_then opens before middle after same unit_is grows held = record { at = held.at; unit_is = same ∙ unit_is; grows = grows_on opens before.types middle.types after.types grows held.grows }

module _ (opens : List ℕ) where
  -- the blocks of a program, and a unit up to a place
  pub backs_start : (home : CHome) (one other : ℕ) (scope : CScope) → one ≡ other → Backs home opens (new_scope one) scope → Backs home opens (new_scope other) scope
  backs_start home one other scope same held = subst (λ unit. Backs home opens (new_scope unit) scope) same held

  pub backs_before : (home : CHome) (before after : CScope) → Steps opens before after → Backs home opens (new_scope after.unit) after → Backs home opens (new_scope before.unit) before
  backs_before home before after steps backs =
      backs_start home after.unit before.unit before steps.declares.unit_is (backs_earlier opens home (new_scope after.unit) before after backs steps)

  pub backs_between : (home : CHome) (before after : CScope) → Steps opens before after → Backs home opens (new_scope after.unit) after → Backs home opens before after
  backs_between home before after steps backs = record {
    unit_is = backs.unit_is ∙ steps.declares.unit_is;
    grows = backs.grows;
    told = backs.told;
    told_is = backs.told_is;
    mentions = λ number one from is. backs.mentions number one (omega arith) is;
    literals = λ number one from is. backs.literals number one (omega arith) is;
    objects = λ number one nothing from is. backs.objects number one nothing (omega arith) is;
    things = backs.things;
    statics = backs.statics;
  }

  -- behind specifiers, declarators and initialisers
  pub file_on : (before after : CScope) → IsAtFileScope opens before → Leads opens before after → IsGood opens after → DeclaresNone before after → after.body ≡ before.body
      → before.next_object ≤ after.next_object → IsAtFileScope opens after
  file_on before after at leads good none body_is more = record {
    good = good;
    orderly = leads.orderly at.orderly;
    accounted = leads.keeps None at.accounted;
    typed = leads.typed None at.accounted at.typed;
    covered = leads.covered at.orderly at.covered;
    outside = leads.in_function_is ∙ at.outside;
    no_label = body_is ∙ at.no_label;
    blocks = functions_once before.next_object after.next_object before.functions after.functions more leads.functions_are at.blocks;
    held = λ home backs.
        all_on home before after none
        (at.held home (backs_start home after.unit before.unit before leads.declares.unit_is (backs_first opens home (new_scope after.unit) before after backs leads)));
  }

-- ---- linkage there (6.2.2p3 to p5)

abbrev linkage_before : Option CMeant → Linkage
linkage_before (Some (an_object number type is_register linkage)) = linkage
linkage_before (Some (a_function number type linkage)) = linkage
linkage_before _ = Nothing

abbrev or_external : Linkage → Linkage
or_external External = External
or_external Internal = Internal
or_external Nothing = External

external_linked : (linkage : Linkage) → is_linked (or_external linkage) ≡ true
external_linked External = refl
external_linked Internal = refl
external_linked Nothing = refl

linked_by : (typedef static asked : Bool) (before : Linkage) → typedef ≡ false
    → is_linked (if typedef then Nothing else if true && static then Internal else if asked then or_external before else if true then External else Nothing) ≡ true
linked_by true static asked before is = absurd cc
linked_by false true asked before is = refl
linked_by false false true before is = external_linked before
linked_by false false false before is = refl

pub file_linked : (specs : CSpecs) (type : CTy) (before : Option CMeant) → is_typedef specs ≡ false → is_linked (linkage_of File specs type before) ≡ true
unfolding linkage_of
file_linked specs type before typedef = linked_by (is_typedef specs) (has_storage keyword.Static specs) (has_storage keyword.Extern specs || is_function type) (linkage_before before) typedef
