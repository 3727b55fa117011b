-- The reader of units gives exactly the tree that tokens derive.
use Rattle.std.proofs.Common.{◌≡◌, ℕ, ◌≤◌, Option, Some, None, List, [], refl, sym, ap, ◌∙◌, subst, arith}
use Rattle.cx_cursor.specs.Reading.{State, at}
use Rattle.cx_cursor.proofs.Readers.{none_some}
use Rattle.cx_lex.specs.declared.token.Token.{Token}
use Rattle.cx_parse.proofs.ReadsDecls.{decl_reads}
use Rattle.cx_parse.proofs.ReadsExternals.{unit_reads}
use Rattle.cx_parse.proofs.ReadsInits.{initialiser_reads}
use Rattle.cx_parse.proofs.Knotted.{all_read}
use Rattle.cx_parse.proofs.ReadsSpecs.{specs_from_reads}
use Rattle.cx_parse.proofs.SoundKnot.{readers_sound, initialiser_sound, specs_sound}
use Rattle.cx_parse.proofs.SoundSpecs.{stands_behind}
use Rattle.cx_parse.proofs.SoundUnits.{UnitStood, unit_sound}
use Rattle.cx_parse.specs.Parsed.{OneTree}
use Rattle.cx_expr.specs.Knot.{readers}
use Rattle.cx_stmt.specs.Units.{unit}
use Rattle.cx_tree.specs.Derives.{Derives}
use Rattle.cx_tree.specs.Names.{UnitStands}
use Rattle.cx_tree.specs.Trees.{UnitTree}

-- what tokens derive is read, with parts at most so deep
pub record IsRead (depth : ℕ) (state : State) (u : UnitTree) : Type 0 where
  pub after : State
  pub is : unit depth state ≡ Some (u, after)

pub derives_read : (depth : ℕ) (state : State) (tokens : List Token) (u : UnitTree) → state ≡ at tokens [] → 510 ≤ depth → Derives tokens u → IsRead depth state u
derives_read depth state tokens u same deep d =
    let within = d.depth in
    let whole =
    unit_reads all_read (λ depth. initialiser_reads (readers depth) depth (all_read depth)) (λ depth. specs_from_reads (readers depth) depth (all_read depth))
    (decl_reads all_read (λ depth. initialiser_reads (readers depth) depth (all_read depth)) (λ depth. specs_from_reads (readers depth) depth (all_read depth)))
    depth u d.valid d.stands (omega (arith, within)) in
    record {
      after = at [] whole.names;
      is = ap (λ (s : State). unit depth s) (same ∙ ap (λ (ts : List Token). at ts []) (sym d.spelled)) ∙ whole.read;
    }

-- what is read is what the tokens derive
pub read_derives : (depth : ℕ) (state : State) (tokens : List Token) (u : UnitTree) (after : State) → state ≡ at tokens [] → unit depth state ≡ Some (u, after) → depth ≤ 510 → Derives tokens u
read_derives depth state tokens u after same h low =
    let stood : UnitStood readers_sound initialiser_sound specs_sound stands_behind depth state u after =
    unit_sound readers_sound initialiser_sound specs_sound stands_behind depth state u after h in
    let within = stood.deep in
    record {
      valid = stood.valid;
      depth = omega (arith, within);
      stands = subst (λ (s : State). UnitStands s.names u) same stood.stands;
      spelled = sym stood.spelled ∙ ap (λ (s : State). s.tokens) same;
    }

some_one : {A : Type 0} (a b : A) → Some a ≡ Some b → a ≡ b
some_one a b e = cc

same_read : (u v : UnitTree) (s t : State) (r : Option (UnitTree × State)) → r ≡ Some (u, s) → r ≡ Some (v, t) → u ≡ v
same_read u v s t r e f = ap (λ (p : UnitTree × State). p.0) (some_one {A = UnitTree × State} (u, s) (v, t) (sym e ∙ f))

-- the one tree is that which is read
pub read_only : (depth : ℕ) (state : State) (tokens : List Token) (u : UnitTree) (after : State) → state ≡ at tokens [] → unit depth state ≡ Some (u, after) → 510 ≤ depth
    → (v : UnitTree) → Derives tokens v → u ≡ v
read_only depth state tokens u after same h deep v d =
    let other = derives_read depth state tokens v same deep d in same_read u v after other.after (unit depth state) h other.is

pub one_tree : OneTree
one_tree tokens a b da db =
    let one = derives_read 510 (at tokens []) tokens a refl (omega arith) da in
    let two = derives_read 510 (at tokens []) tokens b refl (omega arith) db in
    same_read a b one.after two.after (unit 510 (at tokens [])) one.is two.is

-- where nothing is read, the tokens derive nothing
pub none_derived : (depth : ℕ) (state : State) (tokens : List Token) → state ≡ at tokens [] → unit depth state ≡ None → 510 ≤ depth → (u : UnitTree) → Derives tokens u → ⊥
none_derived depth state tokens same none deep u d =
    let read = derives_read depth state tokens u same deep d in none_some _ (u, read.after) (sym none ∙ read.is)
