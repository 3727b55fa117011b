-- Worked examples of the definitions.
use Rattle.std.proofs.Common.{◌≡◌, ℕ, pos, negsuc, false, List, [], ◌∷◌, map, take, Some, None, codes, refl, lit<, lit≤}
use Rattle.std.specs.Fmt.{digits}
use Rattle.straight_rust_tree.specs.declared.tree.Attribute.TheVariants.{Mangled, NoMangle}
use Rattle.straight_rust_tree.specs.declared.tree.Operator.TheVariants.{Add, Sub, Mul}
use Rattle.straight_rust_tree.specs.Laws.{ReturnsFortyTwo, crate_returning, plain_function}
use Rattle.straight_rust_tree.specs.Lines.{no_mangle_line, extern_line, closing_line, allow_line, main_line, unsafe_line, exit_line, main_lines, cargo_lines, text_of_lines}
use Rattle.straight_rust_tree.specs.Names.{keywords, path_words}
use Rattle.straight_rust_tree.specs.Reads.{ReadsAs}
use Rattle.straight_rust_tree.specs.Text.{file_of, main_path, cargo_path, text_of}
use Rattle.straight_rust_tree.specs.Tokens.{tokens_in, word, mark, marks}
use Rattle.straight_rust_tree.specs.Tree.{i32, named, static_at, literal, read, call, neg, binary, exprs, assign, eval, gives, stmts, LocalTree, OuterTree, FunctionTree, static, extern, defined, CrateTree}
use Rattle.straight_rust_tree.specs.Valid.{valid_expr}

words_and_marks : tokens_in (codes "let mut r#type: i32=-5i32;") ≡ Some (word (codes "let") ∷ word (codes "mut") ∷ word (codes "r#type") ∷ mark (codes ":") ∷ word (codes "i32") ∷ mark (codes "=") ∷ mark (codes "-") ∷ word (codes "5i32") ∷ mark (codes ";") ∷ [])
unfolding marks
words_and_marks = refl

-- the tokens of each file, as they are spelled
pub returned : ReturnsFortyTwo
unfolding no_mangle_line extern_line closing_line allow_line main_line unsafe_line exit_line cargo_lines digits marks keywords path_words
returned = record {
  bytes = refl;
  reads = record {
    valid = record {
      modules = (lit< tt, lit≤ tt);
      names = refl;
      forms = refl;
      entry = refl;
    };
    main = file_of main_path (text_of_lines (main_lines (crate_returning 42)));
    cargo = file_of cargo_path (text_of_lines cargo_lines);
    modules = (record { named = refl; spelled = refl }, refl);
    main_spelled = record { named = refl; spelled = refl };
    cargo_spelled = record { named = refl; spelled = refl };
  };
}

-- ---- a crate with a static object, an external function, locals and operators

abbrev local : List ℕ → LocalTree
local name = record { name = name; ty = i32 }

abbrev main : FunctionTree
main = record {
  attribute = Mangled;
  name = codes "main_0";
  params = [];
  result = Some i32;
  locals = local (codes "t") ∷ local (codes "t_0") ∷ [];
  body = stmts (assign (named (codes "t")) (read (static_at (codes "a") (codes "x")))
      ∷ assign (named (codes "t_0")) (binary Add (read (named (codes "t"))) (literal (pos 5) i32))
      ∷ eval (call (codes "a") (codes "putchar") (exprs (read (named (codes "t_0")) ∷ [])))
      ∷ assign (static_at (codes "a") (codes "x")) (neg (read (named (codes "t_0"))))
      ∷ assign (named (codes "t_0")) (binary Mul (literal (negsuc 4) i32) (binary Sub (read (named (codes "t"))) (neg (neg (read (named (codes "t")))))))
      ∷ gives (Some (read (named (codes "t")))) ∷ []);
}

abbrev start : FunctionTree
start = plain_function (codes "run_static_initializers") None (stmts (assign (static_at (codes "a") (codes "x")) (literal (pos 60) i32) ∷ []))

abbrev putchar : OuterTree
putchar = record { link_name = None; name = codes "putchar"; params = i32 ∷ []; variadic = false; result = Some i32 }

abbrev straight : CrateTree
straight = record {
  modules = record {
    name = codes "a";
    items = static (record { attribute = NoMangle; name = codes "x"; ty = i32 }) ∷ extern (putchar ∷ []) ∷ defined main ∷ defined start ∷ [];
  } ∷ [];
  entry = 0;
}

straight_text : map (λ file. file.bytes) (take 1 (text_of straight)) ≡ codes "#[no_mangle]\npub static mut x: i32 = unsafe { core::mem::zeroed() };\nextern \"C\" {\n    pub fn putchar(a0: i32) -> i32;\n}\npub unsafe extern \"C\" fn main_0() -> i32 {\n    let mut t: i32 = core::mem::zeroed();\n    let mut t_0: i32 = core::mem::zeroed();\n    t = crate::a::x;\n    t_0 = t + 5i32;\n    crate::a::putchar(t_0);\n    crate::a::x = -t_0;\n    t_0 = (-5i32) * (t - (-(-t)));\n    return t;\n}\npub unsafe extern \"C\" fn run_static_initializers() {\n    crate::a::x = 60i32;\n}\n" ∷ []
unfolding no_mangle_line extern_line closing_line allow_line main_line unsafe_line exit_line cargo_lines digits
straight_text = refl

straight_read : ReadsAs (text_of straight) straight
unfolding no_mangle_line extern_line closing_line allow_line main_line unsafe_line exit_line cargo_lines digits marks keywords path_words
straight_read = record {
  valid = record { modules = (lit< tt, lit≤ tt); names = refl; forms = refl; entry = refl };
  main = file_of main_path (text_of_lines (main_lines straight));
  cargo = file_of cargo_path (text_of_lines cargo_lines);
  modules = (record { named = refl; spelled = refl }, refl);
  main_spelled = record { named = refl; spelled = refl };
  cargo_spelled = record { named = refl; spelled = refl };
}

-- a comment, an escape, a prefixed literal and a text that isn't closed are no tokens
no_comment : tokens_in (codes "a // b") ≡ None
unfolding marks
no_comment = refl

no_escape : tokens_in (codes "\"a\\n\"") ≡ None
no_escape = refl

no_prefix : tokens_in (codes "extern\"C\"") ≡ None
no_prefix = refl

not_closed : tokens_in (codes "\"C") ≡ None
not_closed = refl

-- the longest mark is one token, so blanks between marks count
longest_mark : tokens_in (codes "a<<=b=>...") ≡ Some (word (codes "a") ∷ mark (codes "<<=") ∷ word (codes "b") ∷ mark (codes "=>") ∷ mark (codes "...") ∷ [])
unfolding marks
longest_mark = refl

-- a literal behind unary minus would be read as a negative literal, so it is no tree of the subset
minus_literal : valid_expr (neg (literal (pos 5) i32)) ≡ false
minus_literal = refl
