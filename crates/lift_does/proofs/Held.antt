-- What a node gives is held in a temporary.
use Rattle.std.proofs.Common.{◌≡◌, inl, inr, ℕ, suc, ◌+◌, Bool, true, false, List, [], ◌∷◌, ◌++◌, length, Some, sym, subst, arith}
use Rattle.cr_base.specs.declared.scalar.Scalar.{Scalar}
use Rattle.cr_world.specs.World.{World}
use Rattle.cx_core.specs.Trees.{CTy, ty, void, basic, enum_type, pointer, array, record_type, function, form_of_type, CExpr, type_of}
use Rattle.cx_core.specs.Typing.{IsTyped}
use Rattle.cx_mean.specs.Operands.{CValue, scalar, cells, names, designates, designates_bits, missing}
use Rattle.cx_typed_work.specs.Operands.{IsRecordForm, IsGiven}
use Rattle.lift_calls.specs.Frames.{FunctionNames}
use Rattle.lift_does.proofs.Around.{Around, DidOf, value_in}
use Rattle.lift_does.proofs.Lasting.{lasts_less}
use Rattle.lift_does.proofs.Nodes.{PartOwes}
use Rattle.lift_does.proofs.Operands.{other_based, where_used}
use Rattle.lift_does.proofs.Runs.{weaker_owes}
use Rattle.lift_does.proofs.Types.{kind_there}
use Rattle.lift_does.specs.Agree.{AreKeptFrom}
use Rattle.lift_does.specs.Gives.{GivesSome, GivesMissing, MissingAs, GivesOperand, GivesWhere}
use Rattle.lift_exprs.specs.Names.{Names, type_in}
use Rattle.lift_exprs.specs.Written.{Written}
use Rattle.lift_forms.specs.Given.{Given}
use Rattle.lift_forms.specs.Given as given_form
use Rattle.lift_forms.specs.Operators.{given_value}
use Rattle.lift_forms_laws.proofs.Operands.{value_gives}
use Rattle.lift_forms_laws.specs.Gives.{GivesAt}
use Rattle.lift_held.specs.Held.{is_void, is_record}
use Rattle.lift_stands.proofs.Images.{value_stays}
use Rattle.lift_stands.specs.Stands.{Images, Extends}
use Rattle.mem_bytes.specs.Coding.{IsValueOf}
use Rattle.mem_bytes.specs.declared.value.Value.{Value}
use Rattle.lift_stands_values.proofs.Ranges.{given_in_range}
use Rattle.rs_mean.specs.Scalars.{scalar_of}
use Rattle.rs_text.specs.Tree.{Ty, Place, Expr, AddressOf}

-- ---- the temporary that is taken last

pub kept_front : (names_of : Names) (kept : FunctionNames) (number : ℕ) (front back : List Ty) → AreKeptFrom names_of kept number (front ++ back) → AreKeptFrom names_of kept number front
kept_front names_of kept number [] back are = tt
kept_front names_of kept number (one ∷ front) back are = (are.0, kept_front names_of kept (suc number) front back are.1)

pub kept_back : (names_of : Names) (kept : FunctionNames) (number : ℕ) (front back : List Ty) → AreKeptFrom names_of kept number (front ++ back) → AreKeptFrom names_of kept (number + length front) back
kept_back names_of kept number [] back are = subst (λ (n : ℕ). AreKeptFrom names_of kept n back) (omega arith) are
kept_back names_of kept number (one ∷ front) back are = subst (λ (n : ℕ). AreKeptFrom names_of kept n back) (omega arith) (kept_back names_of kept (suc number) front back are.1)

module _ (x : Around) where
  -- nothing is held: what was given is given
  pub not_held : (used fixed more : Bool) (e : CExpr) (written : Written) (from : ℕ) (images : Images) (c0 w0 : World) → (used ≡ true → more ≡ true → fixed ≡ true) → PartOwes x used fixed e written from images c0 w0 → PartOwes x used more e written from images c0 w0
  not_held used fixed more e written from images c0 w0 less owes =
      weaker_owes x (DidOf x used fixed e written from images c0 w0) (DidOf x used more e written from images c0 w0) (value_in x e c0) written.body w0 (λ operand c1 flow w1 did. record {
        flow_is = did.flow_is;
        later = did.later;
        own = did.own;
        are_own = did.are_own;
        keeps = did.keeps;
        worlds = did.worlds;
        gives = λ last c_later after later. where_used used x last after e written.given operand.value (λ is.
            subst (λ (u : Bool). GivesWhere u x.s x.names last x.c_frame x.frame after e written.given operand.value) is
            (did.gives last c_later after (record {
              extends = later.extends;
              here = later.here;
              temporaries = later.temporaries;
              lasts = lasts_less more fixed operand.marks.reads operand.marks.reads c1 c_later (less is) (λ all. all) later.lasts;
            })));
      }) owes

  -- ---- values

  -- what is stored in the temporary
  pub record IsStorable (e : CExpr) (given : Given) (of_c : CValue) (images : Images) (world : World) : Type 0 where
    pub kind : Scalar
    pub kind_is : scalar_of (type_in x.names (type_of e)) ≡ Some kind
    pub other : Value
    pub gives : GivesAt x.frame world (given_value given) (type_in x.names (type_of e)) other
    pub of_kind : IsValueOf kind other
    -- and what is given when it is read
    pub back : (last : Images) (later : World) (read : Expr) → ((p : Place) → given_form.value read ≡ given_form.value (AddressOf p) → ⊥) →
        Extends images last → GivesAt x.frame later read (type_in x.names (type_of e)) other → GivesOperand x.s x.names last x.c_frame x.frame later e (given_form.value read) of_c

  of_missing : (world : World) (type : CTy) (given : Given) → is_void type ≡ false → is_record type ≡ false → GivesMissing x.names x.frame world type given → GivesSome x.frame world (type_in x.names type) given
  of_missing world type given not_void not_record gives =
      subst (λ (r : Bool). MissingAs false r x.frame world (type_in x.names type) (x.names.size_of type) given) not_record
      (subst (λ (v : Bool). MissingAs v (is_record type) x.frame world (type_in x.names type) (x.names.size_of type) given) not_void gives)

  pub to_missing : (world : World) (type : CTy) (given : Given) → is_void type ≡ false → is_record type ≡ false → GivesSome x.frame world (type_in x.names type) given → GivesMissing x.names x.frame world type given
  to_missing world type given not_void not_record gives =
      subst (λ (v : Bool). MissingAs v (is_record type) x.frame world (type_in x.names type) (x.names.size_of type) given) (sym not_void)
      (subst (λ (r : Bool). MissingAs false r x.frame world (type_in x.names type) (x.names.size_of type) given) (sym not_record) gives)

  record_clash : (type : CTy) → IsRecordForm (form_of_type type) → is_record type ≡ false → ⊥
  record_clash (ty (record_type number) is_const) is plainly = cc (plainly)
  record_clash (ty void is_const) is plainly = is
  record_clash (ty (basic which) is_const) is plainly = is
  record_clash (ty (enum_type number) is_const) is plainly = is
  record_clash (ty (pointer to) is_const) is plainly = is
  record_clash (ty (array element length_of) is_const) is plainly = is
  record_clash (ty (function result params variadic) is_const) is plainly = is

  pub storable : (e : CExpr) (value : CValue) (given : Given) (images : Images) (world : World) → IsTyped x.home e → is_void (type_of e) ≡ false → is_record (type_of e) ≡ false → IsGiven x.home.program e value →
      GivesOperand x.s x.names images x.c_frame x.frame world e given value → IsStorable e given value images world
  storable e value given images world typed not_void not_record is gives = by value is gives
    where
      by : (of_c : CValue) → IsGiven x.home.program e of_c → GivesOperand x.s x.names images x.c_frame x.frame world e given of_c → IsStorable e given of_c images world
      by (scalar one) (inl of) gave =
          let below = value_gives images x.frame world (record { ty = type_in x.names (type_of e); given = given }) one gave.stands in
          record {
            kind = of.kind;
            kind_is = kind_there x (type_of e) of.kind of.kind_is;
            other = below.other;
            gives = below.gives;
            of_kind = given_in_range images of.kind one below.other below.below of.of_kind;
            back = λ last later read plain extends reads. record {
              stands = record { other = below.other; gives = reads; below = value_stays images last one below.other extends below.below };
              based = other_based x later (given_form.value read) plain;
            };
          }
      by (scalar one) (inr (lacks, none)) gave = absurd none
      by (cells list from) (inl of) gave = absurd (record_clash (type_of e) of.is_record not_record)
      by (cells list from) (inr (lacks, none)) gave = absurd none
      by (names number) (inl of) gave = absurd of
      by (names number) (inr (lacks, none)) gave = absurd none
      by (designates to) (inl of) gave = absurd of
      by (designates to) (inr (lacks, none)) gave = absurd none
      by (designates_bits at bit width) (inl of) gave = absurd of
      by (designates_bits at bit width) (inr (lacks, none)) gave = absurd none
      by missing (inl of) gave = absurd of
      by missing (inr (lacks, none)) gave =
          let some = of_missing world (type_of e) given not_void not_record gave in
          record {
            kind = some.kind;
            kind_is = some.kind_is;
            other = some.other;
            gives = some.gives;
            of_kind = some.of_kind;
            back = λ last later read plain extends reads.
                to_missing later (type_of e) (given_form.value read) not_void not_record (record { kind = some.kind; kind_is = some.kind_is; other = some.other; gives = reads; of_kind = some.of_kind });
          }
