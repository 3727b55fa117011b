-- What was put one behind the other is what gets a name in the function.
use Rattle.std.proofs.Common.{arith, ◌≡◌, ℕ, zero, suc, ◌+◌, ◌&&◌, Bool, true, false, if◌then◌else◌, List, [], ◌∷◌, ◌++◌, map, filter, append_assoc, is_some, is_none, codes, refl, sym, ap, ◌∙◌}
use Rattle.std.proofs.lemmas.List.{append-nil}
use Rattle.cx_core.specs.Statements.{objects_in}
use Rattle.cx_core.specs.Trees.{form_of_type, CObject, CFun, CProgram}
use Rattle.whole_keys.proofs.Ordered.{kept_where}
use Rattle.whole_keys.specs.Kept.{put_where}
use Rattle.whole_locals.specs.Wanted.{has_name_where, is_wanted, params_behind, temporaries_behind}
use Rattle.whole_names.specs.FunctionNames.{WantedLocal, a_result, a_temporary, gives_record, is_local_of, locals_that, wanted_in, wanted_locals, wanted_object, wanted_param, wanted_params, wanted_temporaries}

params_are : (program : CProgram) (numbers : List ℕ) (before : List WantedLocal) → params_behind program numbers before ≡ before ++ wanted_params program numbers
params_are program [] before = sym (append-nil before)
params_are program (number ∷ numbers) before =
    params_are program numbers (before ++ wanted_param program number) ∙ append_assoc before (wanted_param program number) (wanted_params program numbers)

abbrev temporary : ℕ → WantedLocal
temporary number = record { key = a_temporary number; wanted = codes "t" }

last_temporary : (from count : ℕ) → wanted_temporaries from (suc count) ≡ wanted_temporaries from count ++ temporary (from + count) ∷ []
last_temporary from zero = let same : from ≡ from + 0 = omega arith in ap (λ (n : ℕ). temporary n ∷ []) same
last_temporary from (suc count) =
    let same : suc from + count ≡ from + suc count = omega arith in
    ap (λ others. temporary from ∷ others) (last_temporary (suc from) count)
    ∙ ap (λ (n : ℕ). temporary from ∷ (wanted_temporaries (suc from) count ++ temporary n ∷ [])) same

temporaries_are : (count : ℕ) (before : List WantedLocal) → temporaries_behind count before ≡ before ++ wanted_temporaries 0 count
temporaries_are zero before = sym (append-nil before)
temporaries_are (suc count) before =
    let same : count ≡ 0 + count = omega arith in
    ap (λ list. list ++ temporary count ∷ []) (temporaries_are count before) ∙ append_assoc before (wanted_temporaries 0 count) (temporary count ∷ [])
    ∙ ap (λ (n : ℕ). before ++ (wanted_temporaries 0 count ++ temporary n ∷ [])) same ∙ ap (λ list. before ++ list) (sym (last_temporary 0 count))

filter_head : {A : Type 0} (test other : A → Bool) (one : A) (others : List A) (t : Bool) →
    (if t && other one then one ∷ filter other others else filter other others) ≡ filter other (if t then one ∷ others else others)
filter_head test other one others true = refl
filter_head test other one others false = refl

filter_both : {A : Type 0} (test other : A → Bool) (list : List A) → filter (λ one. test one && other one) list ≡ filter other (filter test list)
filter_both test other [] = refl
filter_both test other (one ∷ others) =
    ap (λ list. if test one && other one then one ∷ list else list) (filter_both test other others) ∙ filter_head test other one (filter test others) (test one)

-- objects of the function in some list are those in the program
locals_are : (program : CProgram) (fun : CFun) (objects : List CObject) (test : CObject → Bool) → filter (is_local_of fun) objects ≡ filter (is_local_of fun) program.objects →
    map wanted_object (filter (λ one. is_local_of fun one && test one) objects) ≡ locals_that test program fun
locals_are program fun objects test same =
    ap (λ list. map wanted_object list)
    (filter_both (is_local_of fun) test objects ∙ ap (λ list. filter test list) same ∙ sym (filter_both (is_local_of fun) test program.objects))

joined : (result params named unnamed temporaries : List WantedLocal) → (((result ++ params) ++ named) ++ unnamed) ++ temporaries ≡ (result ++ (params ++ (named ++ unnamed))) ++ temporaries
joined result params named unnamed temporaries =
    ap (λ list. list ++ temporaries) (ap (λ list. list ++ unnamed) (append_assoc result params named) ∙ append_assoc result (params ++ named) unnamed
    ∙ ap (λ list. result ++ list) (append_assoc params named unnamed))

abbrev pub result_where : CFun → List WantedLocal
result_where fun = if gives_record (form_of_type fun.type) then record { key = a_result; wanted = codes "ret" } ∷ [] else []

pub wanted_are : (program : CProgram) (fun : CFun) (objects : List CObject) (count : ℕ) (none one two three four five : List WantedLocal) (blocks params : List ℕ) → none ≡ [] →
    blocks ≡ objects_in fun.body → params ≡ fun.params → filter (is_local_of fun) objects ≡ filter (is_local_of fun) program.objects → one ≡ none ++ result_where fun →
    two ≡ params_behind program params one → three ≡ put_where (is_wanted blocks params true) wanted_object objects two →
    four ≡ put_where (is_wanted blocks params false) wanted_object objects three → five ≡ temporaries_behind count four → five ≡ wanted_in program fun count
wanted_are program fun objects count none one two three four five blocks params empty same_blocks same_params same first second third fourth fifth =
    let result = result_where fun in
    let named = locals_that (λ (o : CObject). is_some o.name) program fun in
    let unnamed = locals_that (λ (o : CObject). is_none o.name) program fun in
    let is_one : one ≡ result = first ∙ ap (λ (list : List WantedLocal). list ++ result) empty in
    let is_two : two ≡ result ++ wanted_params program fun.params =
    second ∙ ap (λ (list : List ℕ). params_behind program list one) same_params ∙ params_are program fun.params one ∙ ap (λ (list : List WantedLocal). list ++ wanted_params program fun.params) is_one in
    let is_three : three ≡ (result ++ wanted_params program fun.params) ++ named =
    third ∙ ap (λ (list : List ℕ). put_where (is_wanted list params true) wanted_object objects two) same_blocks
    ∙ ap (λ (list : List ℕ). put_where (is_wanted (objects_in fun.body) list true) wanted_object objects two) same_params
    ∙ kept_where (is_wanted (objects_in fun.body) fun.params true) wanted_object objects two
    ∙ ap (λ (list : List WantedLocal). two ++ list) (locals_are program fun objects (λ (o : CObject). is_some o.name) same) ∙ ap (λ (list : List WantedLocal). list ++ named) is_two in
    let is_four : four ≡ ((result ++ wanted_params program fun.params) ++ named) ++ unnamed =
    fourth ∙ ap (λ (list : List ℕ). put_where (is_wanted list params false) wanted_object objects three) same_blocks
    ∙ ap (λ (list : List ℕ). put_where (is_wanted (objects_in fun.body) list false) wanted_object objects three) same_params
    ∙ kept_where (is_wanted (objects_in fun.body) fun.params false) wanted_object objects three
    ∙ ap (λ (list : List WantedLocal). three ++ list) (locals_are program fun objects (λ (o : CObject). is_none o.name) same) ∙ ap (λ (list : List WantedLocal). list ++ unnamed) is_three in
    fifth ∙ temporaries_are count four ∙ ap (λ (list : List WantedLocal). list ++ wanted_temporaries 0 count) is_four
    ∙ joined result (wanted_params program fun.params) named unnamed (wanted_temporaries 0 count)
