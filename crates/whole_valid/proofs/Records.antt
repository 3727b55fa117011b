-- The records of a module are valid (ISO C99, 6.7.2.1; the Rust Reference, "Structs", "Unions" and "The C representation").
use Rattle.std.proofs.Common.{arith, ◌≡◌, ◌<◌, ℕ, ◌==◌, Bool, true, false, ◌&&◌, ◌||◌, if◌then◌else◌, nat_eq, nat_lt, List, [], ◌∷◌, Option, Some, None, IfSome, IsSome, IsTrue, All, is_some, slice_get, refl, sym, ap, subst, ◌∙◌, ◌⊎◌, inl, inr}
use Rattle.std.proofs.lemmas.Bool.{and_from}
use Rattle.std.specs.List.{list_all, list_any}
use Rattle.std.specs.Option.{option_and_then, option_flatten}
use Rattle.cr_base.specs.Layout.{no_front}
use Rattle.cr_base.specs.declared.layout.Front.{Front}
use Rattle.cx_core.specs.Layouts.{layouts_of}
use Rattle.cx_core.specs.Trees.{CMember, CProgram, ty, record_type}
use Rattle.cx_core.specs.ValidTypes.{IsMemberIn}
use Rattle.cx_typed_runs.proofs.AlignedTypes.{types_aligned}
use Rattle.cx_typed_work.proofs.Rows.{extent_whole, row_sized}
use Rattle.mem_bytes.specs.Calls.{IsAlignment}
use Rattle.rs_items.specs.Known.{Knows}
use Rattle.rs_items.specs.Records.{fields_align, has_named_bits, member_name, raised_to}
use Rattle.rs_items.specs.Types.{TypeNames, rust_type}
use Rattle.rs_items_rules.proofs.Rows.{row_laid}
use Rattle.rs_mean.specs.Layout.{front_after, laid_at, laid_with, raised_by, record_laid}
use Rattle.rs_text.specs.Names.{is_identifier, is_word}
use Rattle.rs_text.specs.Tree.{ModuleTree, RecordTree}
use Rattle.rs_text.specs.Valid.{valid_align, valid_field, valid_record, valid_ty}
use Rattle.whole_items.specs.Items.{WrittenBodies, module_tree}
use Rattle.whole_means.proofs.Fields.{types_same}
use Rattle.whole_means.proofs.Items.{record_written}
use Rattle.whole_means.proofs.Keys.{number_same}
use Rattle.whole_means.proofs.Layouts.{all_kept}
use Rattle.whole_means.proofs.Lists.{Among}
use Rattle.whole_means.proofs.Modules.{modules_by}
use Rattle.whole_means.proofs.Records.{IsDone, has_name, tree_named}
use Rattle.whole_means.proofs.Rows.{row_in}
use Rattle.whole_means.specs.Written.{IsNamed}
use Rattle.whole_names.specs.Keys.{a_record}
use Rattle.whole_names.specs.Kept.{NamedProgram, known_thing, no_locals}
use Rattle.whole_valid.proofs.Fields.{MemberFits, field_laid, field_valid, fields_are}
use Rattle.whole_valid.proofs.Names.{all_of, all_test, name_identifier}
use Rattle.whole_valid.proofs.Types.{complete_valid}
use Rattle.whole_valid.specs.Given.{HasModuleNames, HasWords}

-- ---- alignments

abbrev small : List ℕ
small = 1 ∷ 2 ∷ 4 ∷ 8 ∷ 16 ∷ []

abbrev is_small : ℕ → Bool
is_small align = list_any (λ one. nat_eq one align) small

small_by : (align other : ℕ) → (align == other) ≡ true → is_small other ≡ true → is_small align ≡ true
small_by align other same is = ap is_small (number_same align other same) ∙ is

either : (a b : Bool) → (a || b) ≡ true → (a ≡ true) ⊎ (b ≡ true)
either true b is = inl refl
either false b is = inr is

align_small : (align : ℕ) → IsAlignment align → is_small align ≡ true
align_small align is = by_fifth (either (align == 1 || align == 2 || align == 4 || align == 8) (align == 16) is)
  where
    by_first : ((align == 1) ≡ true) ⊎ ((align == 2) ≡ true) → is_small align ≡ true
    by_first (inl same) = small_by align 1 same refl
    by_first (inr same) = small_by align 2 same refl

    by_third : ((align == 1 || align == 2) ≡ true) ⊎ ((align == 4) ≡ true) → is_small align ≡ true
    by_third (inl rest) = by_first (either (align == 1) (align == 2) rest)
    by_third (inr same) = small_by align 4 same refl

    by_fourth : ((align == 1 || align == 2 || align == 4) ≡ true) ⊎ ((align == 8) ≡ true) → is_small align ≡ true
    by_fourth (inl rest) = by_third (either (align == 1 || align == 2) (align == 4) rest)
    by_fourth (inr same) = small_by align 8 same refl

    by_fifth : ((align == 1 || align == 2 || align == 4 || align == 8) ≡ true) ⊎ ((align == 16) ≡ true) → is_small align ≡ true
    by_fifth (inl rest) = by_fourth (either (align == 1 || align == 2 || align == 4) (align == 8) rest)
    by_fifth (inr same) = small_by align 16 same refl

raised_valid : (align : ℕ) (members : List CMember) → is_small align ≡ true → valid_align (raised_to align members) ≡ true
raised_valid align members is = by_test (has_named_bits members && nat_lt (fields_align members) align)
  where
    by_test : (t : Bool) → valid_align (if t then Some align else None) ≡ true
    by_test true = is
    by_test false = refl

module _ (whole : NamedProgram) (is : IsNamed whole) (words : HasWords whole.program) (names : HasModuleNames whole.module_names) (bodies : WrittenBodies) where
  abbrev program : CProgram
  program = whole.program

  abbrev modules : List ModuleTree
  modules = modules_by (module_tree whole bodies) 0 (Rattle.std.proofs.Common.length whole.module_names)

  abbrev known : ℕ → Knows
  known unit = known_thing whole unit no_locals

  module _ (unit number : ℕ) (done : IsDone whole unit number) where
    row_small : is_small done.row.laid.align ≡ true
    row_small =
        align_small done.row.laid.align
        (types_aligned program.types (ty (record_type number) false) done.row.laid is.linked.types
        (extent_whole (layouts_of program.types) (ty (record_type number) false) done.row.laid (row_sized program.types number false done.row done.row_is)))

    member_word : (name : Option (List ℕ)) (bits : Option ℕ) → IsSome name ⊎ IsSome bits → IfSome name (λ x. is_word x ≡ true) → bits ≡ None → is_word (member_name name) ≡ true
    member_word (Some x) bits named word none = word
    member_word None bits (inl some) word none = absurd cc
    member_word None bits (inr some) word none = absurd (let h : false ≡ true = sym (ap is_some none) ∙ some in cc)

    member_fits : (member : CMember) → Among done.one.members member → MemberFits (known unit) member
    member_fits member there =
        let of = all_of (IsMemberIn program.types unit) done.one.members member (is.linked.types.records number unit done.one done.one_is done.unit_is).members there in
        record {
          named = member_word member.name member.bits of.named (all_of (λ (m : CMember). IfSome m.name (λ name. is_word name ≡ true)) done.one.members member (words.members number done.one done.one_is) there);
          typed = ap (λ (types : TypeNames). valid_ty (rust_type types member.type)) (types_same whole unit no_locals) ∙ complete_valid whole is words names unit member.type of.type_in of.complete;
        }

    abbrev tree : RecordTree
    tree = record_written whole unit done.one done.row

    laid_found : record_laid (laid_with (laid_at modules)) tree ≡ Some done.row.laid
    laid_found =
        row_laid (known unit) (laid_at modules) (layouts_of program.types) (all_kept whole is bodies unit no_locals) done.one done.row
        (row_in program.types number done.one done.row (ap option_flatten done.one_is) done.row_is)

    fields_some : IsSome (front_after (laid_with (laid_at modules)) (Some (no_front tree.is_union)) tree.fields)
    fields_some = by_front (front_after (laid_with (laid_at modules)) (Some (no_front tree.is_union)) tree.fields) laid_found
      where
        by_front : (found : Option Front) → option_and_then (λ (front : Front). Rattle.rs_mean.specs.Layout.within_most (Rattle.cr_base.specs.Layout.laid (raised_by tree.align front))) found ≡ Some done.row.laid → IsSome found
        by_front None e = absurd cc
        by_front (Some front) e = refl

    fields_valid : list_all valid_field tree.fields ≡ true
    fields_valid = all_test valid_field tree.fields (λ field there.
        field_valid (laid_at modules) field
        (fields_are (known unit) done.one done.row.spots (is.few_members number done.one done.one_is) member_fits field there)
        (field_laid (laid_at modules) tree.fields (Some (no_front tree.is_union)) field fields_some there))

    pub record_valid : valid_record tree ≡ true
    record_valid =
        and_from (valid_align tree.align && is_identifier tree.name) (list_all valid_field tree.fields)
        (and_from (valid_align tree.align) (is_identifier tree.name) (raised_valid done.row.laid.align done.one.members row_small)
        (ap is_identifier (tree_named whole is unit number done) ∙ name_identifier whole is words unit (a_record number) (has_name whole is unit number done))) fields_valid
