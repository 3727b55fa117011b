-- Where a run goes on in a function: open statements, and the objects of those that are left (ISO C99, 6.2.4, 6.8).
use Rattle.std.proofs.Common.{◌≡◌, refl, ap, ◌∙◌, subst, List, [], ◌∷◌, ◌++◌, IfSome, append_assoc}
use Rattle.cr_world.specs.Held.{Held, with_blocks}
use Rattle.cx_core.specs.Statements.{with_objects}
use Rattle.cx_core.specs.Trees.{CTy, CFun, CProgram}
use Rattle.cx_mean.specs.Moves.{CMove, CStand, stand, without_objects, slots_in, slots_of_site}
use Rattle.cx_mean.specs.Operands.{Frame}
use Rattle.cx_mean.specs.Paths.{CRest, CLevel, CBottom, CSite, site_at, with_rest, with_level}
use Rattle.mem_bytes.specs.Memory.{Blocks}
use Rattle.cx_typed_runs.proofs.Owned.{killed_owned, killed_held, memory_without}
use Rattle.cx_typed_runs.proofs.Standing.{IsHere, IsStandOf}
use Rattle.cx_typed_runs.specs.Sites.{objects_of, IsLeftOf, IsLevel, body_at, whole_body, outermost, form_of_stmt, IsSite, AreOwned}
use Rattle.cx_typed_runs.specs.States.{IsMoveIn, slots_of_move}

-- ---- sites

-- what is left of the innermost open statement changes
pub rest_stays : (program : CProgram) (one : CFun) (result : CTy) (level : CLevel) (outer : List CLevel) (bottom : CBottom) (left : CRest) → IsSite program one result (site_at (level ∷ outer) bottom)
    → IsLeftOf (with_objects (objects_of level.slots) (body_at (whole_body program one result) outer)) (objects_of level.slots) level.form left
    → IsSite program one result (site_at (with_rest left level ∷ outer) bottom)
rest_stays program one result level outer bottom left site is =
    let first = site.levels.0 in
    record {
      running = site.running;
      levels = (record { declares = first.declares; in_scope = first.in_scope; objects = first.objects; form = first.form; rest = is }, site.levels.1);
      whole = subst (λ found. IfSome found (λ form. form ≡ form_of_stmt one.body)) (same outer) site.whole;
      params_are = site.params_are;
      at_end_is = site.at_end_is;
    }
  where
    same : (outer : List CLevel) → outermost (level ∷ outer) ≡ outermost (with_rest left level ∷ outer)
    same [] = refl
    same (next ∷ others) = refl

-- the innermost open statement is left
pub outer_site : (program : CProgram) (one : CFun) (result : CTy) (level : CLevel) (outer : List CLevel) (bottom : CBottom) → IsSite program one result (site_at (level ∷ outer) bottom) → IsSite program one result (site_at outer bottom)
outer_site program one result level outer bottom site = record {
  running = site.running;
  levels = site.levels.1;
  whole = around outer site.whole;
  params_are = site.params_are;
  at_end_is = site.at_end_is;
}
  where
    around : (outer : List CLevel) → IfSome (outermost (level ∷ outer)) (λ form. form ≡ form_of_stmt one.body) → IfSome (outermost outer) (λ form. form ≡ form_of_stmt one.body)
    around [] is = tt
    around (next ∷ others) is = is

-- a statement is opened; the first is the body of the function
pub inner_site : (program : CProgram) (one : CFun) (result : CTy) (level : CLevel) (site : CSite) → IsSite program one result site
    → IsLevel (body_at (whole_body program one result) site.levels) (objects_of (slots_in site.levels)) level → (site.levels ≡ [] → level.form ≡ form_of_stmt one.body)
    → IsSite program one result (with_level level site)
inner_site program one result level site is opened first = record {
  running = is.running;
  levels = (opened, is.levels);
  whole = inside site.levels first is.whole;
  params_are = is.params_are;
  at_end_is = is.at_end_is;
}
  where
    inside : (outer : List CLevel) → (outer ≡ [] → level.form ≡ form_of_stmt one.body) → IfSome (outermost outer) (λ form. form ≡ form_of_stmt one.body) → IfSome (outermost (level ∷ outer)) (λ form. form ≡ form_of_stmt one.body)
    inside [] begins is = begins refl
    inside (next ∷ others) begins is = is

-- ---- objects

-- those of an open statement stand before those around it
pub slots_first : (slots outer params rest : Frame) → slots ++ outer ++ params ++ rest ≡ slots ++ (outer ++ params ++ rest)
slots_first slots outer params rest = ap (λ front. front ++ rest) (append_assoc slots outer params) ∙ append_assoc slots (outer ++ params) rest

-- ---- where a run stands

-- a site with the same objects
pub here_at : (program : CProgram) (one : CFun) (result : CTy) (held : Held) (rest : Frame) (before after : CSite) → IsHere program one result held rest before → IsSite program one result after
    → slots_of_site before ≡ slots_of_site after → IsHere program one result held rest after
here_at program one result held rest before after here site same = record {
  linked = here.linked;
  at = site;
  memory = here.memory;
  allocated = here.allocated;
  owned = subst (λ slots. AreOwned program held (slots ++ rest)) same here.owned;
}

-- what is left of the innermost open statement changes
pub here_with : (program : CProgram) (one : CFun) (result : CTy) (held : Held) (rest : Frame) (level : CLevel) (outer : List CLevel) (bottom : CBottom) (left : CRest) → IsHere program one result held rest (site_at (level ∷ outer) bottom)
    → IsLeftOf (with_objects (objects_of level.slots) (body_at (whole_body program one result) outer)) (objects_of level.slots) level.form left
    → IsHere program one result held rest (site_at (with_rest left level ∷ outer) bottom)
here_with program one result held rest level outer bottom left here is =
    here_at program one result held rest (site_at (level ∷ outer) bottom) (site_at (with_rest left level ∷ outer) bottom) here (rest_stays program one result level outer bottom left here.at is) refl

abbrev pub without : Frame → Held → Held
without gone held = with_blocks (without_objects gone held.blocks) held

-- the innermost open statement is left, and its objects die
pub here_around : (program : CProgram) (one : CFun) (result : CTy) (held : Held) (rest : Frame) (level : CLevel) (outer : List CLevel) (bottom : CBottom) → IsHere program one result held rest (site_at (level ∷ outer) bottom)
    → IsHere program one result (without level.slots held) rest (site_at outer bottom)
here_around program one result held rest level outer bottom here =
    let owned = subst (AreOwned program held) (slots_first level.slots (slots_in outer) bottom.params rest) here.owned in
    record {
      linked = here.linked;
      at = outer_site program one result level outer bottom here.at;
      memory = memory_without program level.slots held.blocks here.memory;
      allocated = killed_held program held level.slots (slots_in outer ++ bottom.params ++ rest) owned here.allocated;
      owned = killed_owned program held level.slots (slots_in outer ++ bottom.params ++ rest) owned;
    }

-- a move from there, in the same memory
pub stands : (program : CProgram) (one : CFun) (result : CTy) (held : Held) (rest : Frame) (site : CSite) (move : CMove) → IsHere program one result held rest site → IsMoveIn program one result move
    → slots_of_site site ≡ slots_of_move move → IsStandOf program one result held rest (stand move held.blocks)
stands program one result held rest site move here is same = record {
  memory = here.memory;
  allocated = here.allocated;
  owned = subst (λ slots. AreOwned program held (slots ++ rest)) same here.owned;
  move = is;
}

-- a move from a later memory, beside the same objects
pub stands_after : (program : CProgram) (one : CFun) (result : CTy) (held : Held) (rest : Frame) (blocks : Blocks) (stood : CStand) → IsStandOf program one result (with_blocks blocks held) rest stood
    → IsStandOf program one result held rest stood
stands_after program one result held rest blocks stood is = record { memory = is.memory; allocated = is.allocated; owned = is.owned; move = is.move }

-- a move from where objects have died
pub stands_around : (program : CProgram) (one : CFun) (result : CTy) (held : Held) (rest gone : Frame) (stood : CStand) → IsStandOf program one result (without gone held) rest stood → IsStandOf program one result held rest stood
stands_around program one result held rest gone stood is = stands_after program one result held rest (without_objects gone held.blocks) stood is
