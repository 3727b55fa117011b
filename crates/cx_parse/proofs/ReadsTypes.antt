-- Type names and parameters are read.
use Rattle.std.proofs.Common.{◌≡◌, ℕ, suc, Bool, true, false, not, Some, List, [], ◌++◌, refl, sym, ap, ◌∙◌, subst, arith, append_assoc}
use Rattle.std.proofs.lemmas.Bool.{true≢false}
use Rattle.cx_cursor.specs.Reading.{at}
use Rattle.cx_cursor.proofs.Readers.{bind_some}
use Rattle.cx_expr.specs.Below.{Below}
use Rattle.cx_expr.specs.Declarators.{declarator_or_missing, param_from}
use Rattle.cx_expr.specs.Exprs.{type_name_from}
use Rattle.cx_expr.specs.Specifiers.{specs_read, specs_from}
use Rattle.cx_words.specs.declared.form.Form.TheVariants.{Abstract, Parameter}
use Rattle.cx_lex.specs.declared.token.Punct.TheVariants as punct
use Rattle.cx_lex.specs.declared.token.Token.{Token}
use Rattle.cx_tree.specs.Names.{Binding, bound, has_type_specifier, new_specs, new_declarator, new_type_name, new_param}
use Rattle.cx_tree.specs.Tokens.{specs_tokens, declarator_tokens, type_name_tokens, param_tokens}
use Rattle.cx_tree.specs.Trees.{SpecTrees, DeclaratorTree, TypeNameTree, TypeName, ParamTree, Param}
use Rattle.cx_tree.specs.Valid.{has_name, are_qualifying}
use Rattle.cx_tree.specs.Views.{specs}
use Rattle.cx_parse.proofs.ReadsDeclarators.{as_read, or_missing_reads}
use Rattle.cx_parse.proofs.ReadsSights.{declarator_no_mark, declarator_no_spec, brace_other, mark_no_spec, among_end, among_no_brace, comma_end, closing_end, qualifying_first, qualifying_others}
use Rattle.cx_parse.proofs.ReadsSpecs.{spec_list, specs_of_list, specs_from_reads}
use Rattle.cx_parse.proofs.ReadsSteps.{both_read, read_as, no_line, no_brace_shown, shows_no_brace}
use Rattle.cx_parse.proofs.Stood.{TypeNameFits, ParamFits, EndsDeclarator, EndsAt, NoBrace, Reads, AllRead}

-- no `{` stands in front of a declarator, where none stands behind it
pub declarator_no_brace : (d : DeclaratorTree) (rest : List Token) → NoBrace rest → NoBrace (declarator_tokens d ++ rest)
declarator_no_brace d rest free =
    no_brace_shown [] (declarator_tokens d ++ rest) (declarator_no_mark punct.LeftBrace d [] rest brace_other (λ missing. shows_no_brace [] rest free))

not_true : (b : Bool) → not b ≡ true → b ≡ false
not_true true e = sym e
not_true false e = refl

module _ (below : Below) (most : ℕ) (reads : AllRead below most) where
  pub type_name_from_reads : (t : TypeNameTree) (names : List Binding) (rest : List Token) → TypeNameFits (suc most) names t → EndsDeclarator rest → NoBrace rest
      → Reads (type_name_from below) (type_name_tokens t) (new_type_name t) t names rest
  unfolding type_name_from
  type_name_from_reads (TypeName ss d lines) names rest fits ends free =
      let typed = has_type_specifier ss in
      let inside = names ++ new_specs ss in
      let deep = fits.deep in
      let R : SpecTrees → List ℕ → Type 0 = λ ts ls. Reads (type_name_from below) (specs_tokens ss ++ declarator_tokens d) (new_specs ss ++ new_declarator d) (TypeName ts d ls) names rest in
      subst (λ (ls : List ℕ). R ss ls) (no_line lines fits.valid.own) (subst (λ (ts : SpecTrees). R ts []) (specs_of_list ss)
      (both_read (specs_from below false) _ (specs_tokens ss) (declarator_tokens d) (new_specs ss) (new_declarator d) (specs_read (spec_list ss) typed)
      (TypeName (specs (spec_list ss)) d []) names rest
      (specs_from_reads below most reads false ss names (declarator_tokens d ++ rest) fits.valid.specs fits.stands.specs
      (λ e. qualifying_first (are_qualifying ss) (not (has_name d)) fits.valid.fits) (omega (arith, deep))
      (declarator_no_spec false typed d inside rest fits.stands.behind (mark_no_spec false typed rest inside ends.front)) (declarator_no_brace d rest free))
      (read_as (declarator_or_missing below Abstract) (λ read. TypeName (specs (spec_list ss)) read.tree []) (declarator_tokens d) (new_declarator d) (as_read d) inside rest
      (or_missing_reads below most reads Abstract d inside rest fits.valid.declarator
      (not_true (has_name d) (qualifying_others (are_qualifying ss) (not (has_name d)) fits.valid.fits)) fits.stands.declared
      (omega (arith, deep)) ends))))

  pub param_from_reads : (p : ParamTree) (names : List Binding) (rest : List Token) → ParamFits (suc most) names p → EndsAt punct.Comma punct.RightParenthesis rest
      → Reads (param_from below) (param_tokens p) (new_param p) p names rest
  unfolding param_from
  param_from_reads (Param ss d lines) names rest fits ends =
      let typed = has_type_specifier ss in
      let inside = names ++ new_specs ss in
      let deep = fits.deep in
      let ended : EndsDeclarator rest = among_end rest punct.Comma punct.RightParenthesis ends comma_end closing_end in
      let free : NoBrace rest = among_no_brace punct.Comma punct.RightParenthesis rest ends comma_end closing_end in
      let ts = specs (spec_list ss) in
      let R : SpecTrees → List ℕ → Type 0 = λ ts ls. Reads (param_from below) (specs_tokens ss ++ declarator_tokens d) (new_specs ss ++ (new_declarator d ++ bound ts d)) (Param ts d ls) names rest in
      subst (λ (ls : List ℕ). R ss ls) (no_line lines fits.valid.own) (subst (λ (ts : SpecTrees). R ts []) (specs_of_list ss)
      (both_read (specs_from below true) _ (specs_tokens ss) (declarator_tokens d) (new_specs ss) (new_declarator d ++ bound ts d) (specs_read (spec_list ss) typed) (Param ts d []) names rest
      (specs_from_reads below most reads true ss names (declarator_tokens d ++ rest) fits.valid.specs fits.stands.specs (λ e. absurd (true≢false e)) (omega (arith, deep))
      (declarator_no_spec true typed d inside rest fits.stands.behind (mark_no_spec true typed rest inside ends.front)) (declarator_no_brace d rest free))
      (bind_some (declarator_or_missing below Parameter) _ (at (declarator_tokens d ++ rest) inside) (as_read d) (at rest (inside ++ new_declarator d))
      (or_missing_reads below most reads Parameter d inside rest fits.valid.declarator tt fits.stands.declared (omega (arith, deep)) ended)
      ∙ ap (λ (bs : List Binding). Some (Param ts d [], at rest bs)) (append_assoc inside (new_declarator d) (bound ts d)))))
