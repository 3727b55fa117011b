-- What string literals store is the same in the program (ISO C99, 6.4.5p5).
use Rattle.std.proofs.Common.{◌≡◌, ℕ, suc, ◌&&◌, if◌then◌else◌, List, Option, None, Some, option_map, refl, ap, ◌∙◌}
use Rattle.std.specs.Option.{option_and_then}
use Rattle.std.specs.Prelude.{IfSome}
use Rattle.cx_core.specs.Texts.{is_char_form, is_element, byte_in_form, byte_in, stored_byte, followed, bytes_from, before_zero, IsOneLonger, HoldText}
use Rattle.cx_core.specs.Trees.{CTy, ty, CTyForm, void, basic, enum_type, pointer, array, record_type, function, form_of_type, CExpr, expr, CForm, whole, null, object, code, load, deref, member, address, convert, unary, binary, and, or, cond, assign, assign_by, step, call, call_by, comma, literal, CPut, put, CPuts, no_puts, more_puts}
use Rattle.cx_renumber.specs.Numbers.{CNumbers, type_there, form_there, expr_there, value_there, put_there, puts_there}

module _ (numbers : CNumbers) where
  byte_form_goes : (form : CForm) → byte_in_form (value_there numbers form) ≡ byte_in_form form
  byte_form_goes (whole value) = refl
  byte_form_goes null = refl
  byte_form_goes (object number) = refl
  byte_form_goes (code number) = refl
  byte_form_goes (load from) = refl
  byte_form_goes (deref from) = refl
  byte_form_goes (member of spot) = refl
  byte_form_goes (address of) = refl
  byte_form_goes (convert value) = refl
  byte_form_goes (unary op value) = refl
  byte_form_goes (binary op left right) = refl
  byte_form_goes (and left right) = refl
  byte_form_goes (or left right) = refl
  byte_form_goes (cond test first second) = refl
  byte_form_goes (assign target value) = refl
  byte_form_goes (assign_by op computes target value) = refl
  byte_form_goes (step up post on) = refl
  byte_form_goes (call callee args) = refl
  byte_form_goes (call_by callee args) = refl
  byte_form_goes (comma first second) = refl
  byte_form_goes (literal number puts) = refl

  byte_goes : (value : CExpr) → byte_in (expr_there numbers value) ≡ byte_in value
  byte_goes (expr type place form) = byte_form_goes form

  char_form_goes : (form : CTyForm) → is_char_form (form_there numbers.before form) ≡ is_char_form form
  char_form_goes void = refl
  char_form_goes (basic which) = refl
  char_form_goes (enum_type number) = refl
  char_form_goes (pointer to) = refl
  char_form_goes (array element count) = refl
  char_form_goes (record_type number) = refl
  char_form_goes (function result params variadic) = refl

  char_type_goes : (type : CTy) → is_char_form (form_of_type (type_there numbers.before type)) ≡ is_char_form (form_of_type type)
  char_type_goes (ty form is_const) = char_form_goes form

  stored_goes : (index : ℕ) (one : CPut) → stored_byte index (put_there numbers one) ≡ stored_byte index one
  stored_goes index (put spot type value) =
      ap (λ char. if char && is_element index spot then byte_in (expr_there numbers value) else None) (char_type_goes type)
      ∙ ap (λ byte. if is_char_form (form_of_type type) && is_element index spot then byte else None) (byte_goes value)

  bytes_go : (index : ℕ) (puts : CPuts) → bytes_from index (puts_there numbers puts) ≡ bytes_from index puts
  bytes_go index no_puts = refl
  bytes_go index (more_puts first others) =
      ap (λ byte. followed byte (bytes_from (suc index) (puts_there numbers others))) (stored_goes index first)
      ∙ ap (followed (stored_byte index first)) (bytes_go (suc index) others)

  longer_form_goes : (text : List ℕ) (form : CTyForm) → IsOneLonger text form → IsOneLonger text (form_there numbers.before form)
  longer_form_goes text (array element (Some count)) held = held
  longer_form_goes text form held = absurd held

  longer_goes : (text : List ℕ) (type : CTy) → IsOneLonger text (form_of_type type) → IsOneLonger text (form_of_type (type_there numbers.before type))
  longer_goes text (ty form is_const) held = longer_form_goes text form held

  pub some_text_goes : (type : CTy) (puts : Option CPuts) → IfSome puts (HoldText type) → IfSome (option_map (puts_there numbers) puts) (HoldText (type_there numbers.before type))
  some_text_goes type None held = held
  some_text_goes type (Some puts) held = record {
    text = held.text;
    stored = ap (option_and_then before_zero) (bytes_go 0 puts) ∙ held.stored;
    length_is = longer_goes held.text type held.length_is;
  }
