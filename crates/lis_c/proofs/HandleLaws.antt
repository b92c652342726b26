-- What is in a block of the caller's, whatever it is, is begun there, borrowed, and released: a walk for `_init`, one
-- for `borrow` and one for `_end`.
-- Each begins with the function's code and contract over a handle, which those of the six handles are by
-- computation. So a change of one of these functions is a change of all six.
use Rattle.lis_c.specs.New.{IsNew}
use Rattle.std.proofs.Common.{◌≡◌, ℕ, List, [], ◌∷◌, refl, sym, ap, ◌∙◌}
use Rattle.std.proofs.VecSteps.Shapes.{after}
use Rattle.std.proofs.alloc.Calls.{Goes-blank}
use Rattle.std.proofs.alloc.Global.TheLaws.{the_row_laws as heap_laws}
use Rattle.std.proofs.raw_atomic.Walks.{proved, proved_at}
use Rattle.std.specs.contracts.alloc.Global.{the_row as Gl}
use base.Fml.{Fml, GName, ftrue, fsep, flft, fat, froom}
use base.Fraction.{full_share}
use base.Logic.{id⊢, ent, sep, emp}
use borrow.Struct.Leaves.{Lone-is}
use borrow.Table.OneValue.{part_in, part_out}
use contract.Monad.{fact}
use contract.Running.{tables, Running}
use denote.Builtin.{unit, RefMutOf}
use denote.Exit.{no, yes, hidden, under}
use denote.Follow.{follows, lends_Part}
use denote.Laws.{Is, Typed, shows}
use denote.Memory.{lone, part_at, mem, cell_at, part_of}
use denote.Param.Laws.{Laws, is_one}
use denote.RattleType.{owns, RattleType}
use denote.RawPtr.{Ptr, block_ptr, RawPtr, rawptr_vals, rawptr_Tells, lies_at, room_at, in_a_block, ptr_val}
use denote.Ref.{MutRef, mut_vals, mut_Tells}
use denote.Signature.{plain, mut_ref_to}
use denote.Steps.{only, nothing, opens, heard, peeks}
use denote.Struct.Field.{RawPtr-field, rows}
use denote.Struct.Laws.{RawPtr-laws}
use denote.Struct.Owning.{shape, Owning, row}
use denote.Struct.OwningLaws.{Tells-lowered}
use denote.Struct.Struct.{Struct, exits_of}
use denote.Struct.Values.{intos}
use denote.Triple.Call.{calls_at}
use denote.Triple.Clauses.{Lasts, lasts, Clauses, Ended, closing}
use denote.Triple.Spec.{triple_of, Meets}
use denote.Triple.Table.{framed}
use denote.Triple.Walked.{Goes-dropped, Goes-spent_ref, Stays, walk_of, says, stay_dropped, ends_at}
use lib.Dec.{T as Holds}
use mathlib.Core.List.{map, ◌++◌}
use mathlib.Core.Path.{subst}
use mir.Syntax.{Body, named, Callee, Fn, Ty, addr_of, assign, block, call, copy, deref, erased, field, local, mut}
use mir.Syntax.{opd_unit, place, return, rv_opd, seq, ty_ptr, ty_ref, ty_unit, value_local}
use mir.Val.{Val, vunit, vptr, WT, has_ty, vcons, vnil, vstruct}
use prog.Model.{Model}
use prog.Wp.{WpFn, Closed}
use seplogic.Ra.Ura.{Ura}
use types.ByLocal.{alloc_all, pass_all, free_all, look_at, get, get_in, through, sets, sets_last, lands_as, env}
use types.Kit.{‵, raw, ◌⊛◌, some, later, at_ret, prop, ◌$◌, ◌∵◌, !, qed, done, move, keep, drop, use1, use2, split}
use types.Kit.{split3, join, fsplit, fsplit3, fjoin, fpack, feq_i, feq_l, pick, await, rewrite, regoal, suffices}
use types.Kit.{frame, group}
use types.Logic.{Logic, sem}
use types.Part.{whole, sub, look_in}
use types.Run.{enter, of_opd, unit_lit, addr, load, look, stop, fld, init, assigns, first, blocks, exec, no_more}
use types.Run.{and_then, returns}

-- a handle: a pointer, and what it points to
pub record Handle : Type 2 where
  pub type : Owning
  pub row : RattleType
  pub laws : Laws row
  pub at : type.D → Ptr
  pub state : type.D → row.Denot
  pub make : Ptr → row.Denot → type.D
  pub made : (p : Ptr) (w : row.Denot) → ◌≡◌ {A = Ptr × row.Denot} (at (make p w), state (make p w)) (p, w)

-- a handle by its type, the laws of what it points to, and how it is taken apart and made
abbrev pub handle : (type : Owning) {row : RattleType} → Laws row → (parts : type.D → Ptr × row.Denot)
    (make : Ptr → row.Denot → type.D) → ((p : Ptr) (w : row.Denot) → parts (make p w) ≡ (p, w)) → Handle
handle type {row = row} laws parts make made =
    record {
      type = type;
      row = row;
      laws = laws;
      at = λ h. (parts h).0;
      state = λ h. (parts h).1;
      make = make;
      made = made;
    }

module _ (E : Handle) where
  -- its type: a pointer for a field, and what lies at it is owned next to it
  abbrev owned : Owning
  owned = record {
    name = E.type.name;
    args = [];
    types = [];
    parts = RawPtr-field ∷ [];
    D = E.type.D;
    as_values = λ h. (E.at h, tt);
    coded = E.type.coded;
    heap = λ h. lies_at E.row full_share (E.at h) (E.state h);
    exit = λ k. hidden (under (λ h. intos (RawPtr-field ∷ []) (E.at h, tt)) (exits_of k (rows (RawPtr-field ∷ []))));
    shr_at = E.type.shr_at;
  }

  abbrev R : RattleType
  R = row owned

  abbrev T : RattleType
  T = E.row

  -- another value lies at its pointer
  abbrev with : E.type.D → E.row.Denot → E.type.D
  with h w = E.make (E.at h) w

-- the machine value of a handle
abbrev word : Ptr → Val
word p = vstruct (vcons (ptr_val p) vnil)

-- what a pointer points to is of its type's one layout
typed : (T : RattleType) → Laws T → {M : Type 1} {𝓤 : Ura M} (𝓛 : Logic 𝓤) (x : T.Denot) (v : Val) → Is T x (v ∷ [])
    → Holds (has_ty (lone T.mir) v) × WT v
typed T laws 𝓛 x v is = (subst (λ (τs : List Ty). Typed τs (v ∷ [])) laws.one ((laws.lawful 𝓛).typed x (v ∷ []) is)).0

-- a function's code, and that the function keeps its contract
module _ {M : Type 1} (𝓤 : Ura M) (𝓛 : Logic 𝓤) (𝓜 : Model 𝓤 𝓛.H) (𝓡 : Running 𝓤 𝓛.H 𝓜) (k : Callee) where
  abbrev IsCode : Fn → Type 2
  IsCode = Closed 𝓤 𝓛.H (tables 𝓤 𝓛.H 𝓜 𝓡 𝓡.env).C (tables 𝓤 𝓛.H 𝓜 𝓡 𝓡.env).Λ k

  abbrev Keeps : (En : Ended) → Clauses 𝓤 En → Type 1
  Keeps En c = Meets 𝓛 En.signature ((tables 𝓤 𝓛.H 𝓜 𝓡 𝓡.env).C k) (closing 𝓛 En c)

-- code with n lifetimes and k values for parameters, by the types of its locals and its body
abbrev written : ℕ → ℕ → List Ty → Body → Fn
written n k τs e = record {
  lifetimes = n;
  outlives = [];
  ty_params = [];
  givens = 0;
  params = k;
  locals =
      map (λ (τ : Ty). local τ value_local) τs;
  body = e;
}

-- ---- it is borrowed
module _ (E : Handle) where
  abbrev borrow_fn : Fn
  borrow_fn = written 1 1 (ty_ref (named 0) mut (T E).written.ty ∷ ty_ref (named 0) mut (R E).written.ty
      ∷ ty_ref erased mut (T E).written.ty ∷ ty_ptr ∷ ty_ptr ∷ [])
      (seq (block (seq (assign (place 3 []) (rv_opd (copy (place 1 (deref (lone (R E).mir) ∷ field 0 ∷ [])))))
      (seq (assign (place 4 []) (rv_opd (copy (place 3 []))))
      (assign (place 2 []) (addr_of (place 4 (deref (lone (T E).mir) ∷ [])))))))
      (seq (assign (place 0 []) (rv_opd (copy (place 2 [])))) return))

  abbrev borrow_ended : Ended
  borrow_ended =
      record {
        signature =
            record {
              lifetimes = 1;
              outlives = [];
              params = RefMutOf (0 ∷ []) tt (plain (λ _. R E)) (λ _. tt) ∷ [];
              result =
                  RefMutOf (0 ∷ []) tt (plain (λ _. T E)) (λ _. is_one (T E) E.laws);
            };
        kept = (no, tt);
      }

  abbrev borrow_clauses : {M : Type 1} {𝓤 : Ura M} (𝓛 : Logic 𝓤) → Clauses 𝓤 borrow_ended
  borrow_clauses {𝓤 = 𝓤} 𝓛 κs a = record {
    ghost = Unit {0};
    requires = λ _. emp 𝓤;
    ensures = λ _ r _. sep 𝓤 (sem 𝓛 (follows (R E) (T E) a.0.ghost_name r.ghost_name (with E a.0.now)))
        (fact 𝓤 (r.now ≡ E.state a.0.now));
  }

  abbrev borrow_stays : Stays borrow_ended.signature.params borrow_ended.kept
  borrow_stays = (stay_dropped (mut_ref_to (0 ∷ []) tt (plain (λ _. R E))) no, tt)

module _ (E : Handle) {M : Type 1} {𝓤 : Ura M} (𝓛 : Logic 𝓤) (h : E.type.D) (b o b' o' : ℕ) (us : List Val) where
  -- what the handle's fields own, and the handle's own memory
  abbrev Fields : Ptr → List Val → Fml
  Fields p vs = (Struct (shape (owned E))).own_val (p, tt) vs

  abbrev Rest : Fml
  Rest = fsep (Fields (E.at h) us) (cell_at full_share (R E).mir us b o)

  back : E.at h ≡ block_ptr b' o' → (w : (T E).Denot)
      → ent 𝓤 (sep 𝓤 (sem 𝓛 ((mem (T E)).own_at w b' o')) (sem 𝓛 Rest)) (sem 𝓛 ((mem (R E)).own_at (with E h w) b o))
  unfolding part_of
  back e w =
      qed 𝓛 (‵ (part_at (T E) full_share w b' o') ∷ ‵ Rest ∷ []) ∵
      rewrite ! 0 (λ (p : Ptr). ‵ (lies_at (T E) full_share p w)) (sym e) refl $
      rewrite ! 0 (λ (x : Ptr × (T E).Denot). ‵ (lies_at (T E) full_share x.0 x.1)) (sym (E.made (E.at h) w)) refl $
      move ! (1 ∷ []) $ fsplit ! $ rewrite ! 0 (λ (x : Ptr × (T E).Denot). ‵ (Fields x.0 us))
      (sym (E.made (E.at h) w)) refl $
      move ! (0 ∷ 2 ∷ []) $ fjoin ! $ move ! (1 ∷ 0 ∷ []) $ fjoin ! $
      fpack ! (List Val) (λ vs. fsep (cell_at full_share (R E).mir vs b o) ((R E).own_val (with E h w) vs)) us $ done !

pub borrows : (E : Handle) {M : Type 1} (𝓤 : Ura M) (𝓛 : Logic 𝓤) (𝓜 : Model 𝓤 𝓛.H) (𝓡 : Running 𝓤 𝓛.H 𝓜) (k : Callee)
    → IsCode 𝓤 𝓛 𝓜 𝓡 k (borrow_fn E) → Keeps 𝓤 𝓛 𝓜 𝓡 k (borrow_ended E) (borrow_clauses E 𝓛)
borrows E 𝓤 𝓛 𝓜 𝓡 k closed =
    let En = borrow_ended E in let stayed = borrow_stays E in let c = borrow_clauses E 𝓛 in let W = walk_of 𝓛 En stayed
    c in
    let 𝓣 = tables 𝓤 𝓛.H 𝓜 𝓡 𝓡.env in
    proved 𝓛 En stayed c 𝓜 𝓡 (Goes-spent_ref 𝓛 1 (0 ∷ []) tt (plain (λ _. R E)), tt) k (borrow_fn E) closed
    (λ κs. (mut_vals, tt)) (λ κs. (mut_Tells (named 0) κs.0 (R E), tt)) (λ κs qs bounds a _ are.
    let κ = κs.0 in let q = qs.0 in let b = a.0.ref_ptr.0 in let o = a.0.ref_ptr.1 in let γ = a.0.ghost_name in
    let h = a.0.now in let vs = mut_vals a.0 in
    let y : W.Ghost = ((κs, qs, bounds, a, (vs, tt)), tt) in
    qed 𝓛 (((‵ (flft κ q) ⊛ ‵ ftrue) ⊛ ‵ ((MutRef (named 0) κ (R E)).own_val a.0 vs) ⊛ ‵ ftrue) ∷ ‵ ftrue ∷ []) ∵
    split ! $ split ! $ move ! (2 ∷ []) $ split ! $ keep ! (0 ∷ 2 ∷ []) $
    enter ! _ _ _ _ _ $ alloc_all ! (λ l. pass_all ! refl ((tt, tt), tt) $
    fsplit3 ! $ move ! (1 ∷ 2 ∷ 3 ∷ []) $ opens ! tt (R E) {h = h} b o (λ us.
    move ! (1 ∷ []) $ peeks ! (R E) _ (shows 𝓛 (R E)) h us (λ is. fsplit ! $ move ! (1 ∷ []) $
    in_a_block ! (E.at h) (λ p. lies_at (T E) full_share p (E.state h)) (id⊢ 𝓤 _) (λ b' o' e.
    let ws = word (block_ptr b' o') ∷ [] in
    let said = Tells-lowered (owned E) (RawPtr-laws, tt) h us is ∙ ap (λ (p : Ptr). word p ∷ []) e in
    rewrite ! 2 (λ (vs' : List Val). ‵ (cell_at full_share (R E).mir vs' b o)) said refl $
    rewrite ! 1 (λ (vs' : List Val). ‵ (Fields E 𝓛 h b o b' o' ws (E.at h) vs')) said refl $
    -- [what is borrowed; what the fields own; the handle's cell; the open borrow; obs; auth]
    first ! $ blocks ! $
    sets ! (of_opd ! (load ! (through ! refl (fld ! refl (stop !))) (look_in ! 2 (sub ! 0 refl (whole !))))) refl
    (tt, tt) $
    sets ! (of_opd ! (get ! refl)) refl (tt, tt) $
    sets_last ! (addr ! (through ! refl (stop !))) refl (tt, tt) $
    exec ! 𝓣.C 𝓣.Λ (env (borrow_fn E).locals l) (after 1 (borrow_fn E).body) (at_ret _ (W.post y)) $
    sets ! (of_opd ! (get ! refl)) refl (tt, tt) $
    move ! (1 ∷ 2 ∷ []) $ fjoin ! $ move ! (2 ∷ 3 ∷ 4 ∷ 1 ∷ 0 ∷ []) $ group ! 5 $
    use1 𝓛 (later
    (some (λ (δ : GName). ‵ ((MutRef (named 0) κ (T E)).own_val
    (record { ref_ptr = (b', o'); ghost_name = δ; now = E.state h }) (vptr b' o' ∷ [])) ⊛ ‵ (flft κ q) ⊛ ‵
    (follows (R E) (T E) γ δ (with E h)))))
    (lends_Part 𝓛 (R E) (T E) (with E h) (named 0) κ q b o b' o' γ (sem 𝓛 (Rest E 𝓛 h b o b' o' ws))
    (back E 𝓛 h b o b' o' ws e) (E.type.coded.code h) (E.type.coded.code h) (E.state h)) $ await ! tt $ pick !
    (λ δ. split3 ! $
    returns ! (look_at ! 0 refl) $ free_all ! refl $ keep ! (0 ∷ 1 ∷ 2 ∷ []) $
    suffices ! _ (ends_at 𝓛 En stayed c y (vptr b' o')
    (record { ref_ptr = (b', o'); ghost_name = δ; now = E.state h }) (tt, tt) (tt, tt)) $
    nothing ! $ nothing ! $ fjoin ! $ join ! $ nothing ! $ move ! (2 ∷ 0 ∷ []) $ join ! $ join ! $ frame ! $ says !
    refl $ done !))))))

-- ---- it is begun
module _ (E : Handle) where
  abbrev init_fn : Callee → Fn
  init_fn new = written 0 2 (ty_unit ∷ lone Gl.mir ∷ ty_ptr ∷ ty_ptr ∷ lone (T E).mir ∷ [])
      (seq (assign (place 3 []) (rv_opd (copy (place 2 [])))) (seq (call new (copy (place 1 []) ∷ []) (place 4 []))
      (seq (assign (place 3 (deref (lone (T E).mir) ∷ [])) (rv_opd (copy (place 4 []))))
      (seq (assign (place 0 []) (rv_opd opd_unit)) return))))

  abbrev init_ended : Ended
  init_ended =
      record {
        signature = record {
          lifetimes = 0;
          outlives = [];
          params = plain (λ _. Gl) ∷ plain (λ _. RawPtr)
              ∷ [];
          result = plain (λ _. unit);
        };
        kept = (yes, (yes, tt));
      }

  abbrev init_clauses : ((T E).Denot → Type 0) → {M : Type 1} {𝓤 : Ura M} (𝓛 : Logic 𝓤) → Clauses 𝓤 init_ended
  init_clauses New 𝓛 κs a = record {
    ghost = Unit {0};
    requires = λ _. sem 𝓛 (room_at (T E) a.1.0);
    ensures =
        λ _ _ _. sem 𝓛 (IsNew (T E) New a.1.0);
  }

  abbrev init_stays : Stays init_ended.signature.params init_ended.kept
  init_stays = (stay_dropped (plain (λ _. Gl)) yes, (stay_dropped (plain (λ _. RawPtr)) yes, tt))

  -- what the block is begun with
  abbrev new_ended : Ended
  new_ended = record {
    signature = record { lifetimes = 0; outlives = []; params = plain (λ _. Gl) ∷ []; result = plain (λ _. T E) };
    kept = (yes, tt);
  }

  abbrev new_clauses : ((T E).Denot → Type 0) → {M : Type 1} {𝓤 : Ura M} (𝓛 : Logic 𝓤) → Clauses 𝓤 new_ended
  new_clauses New {𝓤 = 𝓤} 𝓛 κs a = record { ghost = Unit {0}; requires = λ _. emp 𝓤; ensures = λ _ r _. fact 𝓤 (New r) }

pub begins : (E : Handle) (New : (T E).Denot → Type 0) (new : Callee) {M : Type 1} (𝓤 : Ura M) (𝓛 : Logic 𝓤)
    (𝓜 : Model 𝓤 𝓛.H) (𝓡 : Running 𝓤 𝓛.H 𝓜) (k : Callee)
    → Keeps 𝓤 𝓛 𝓜 𝓡 new (new_ended E) (new_clauses E New 𝓛) → IsCode 𝓤 𝓛 𝓜 𝓡 k (init_fn E new)
    → Keeps 𝓤 𝓛 𝓜 𝓡 k (init_ended E) (init_clauses E New 𝓛)
begins E New new 𝓤 𝓛 𝓜 𝓡 k made closed =
    let En = init_ended E in let stayed = init_stays E in let c = init_clauses E New 𝓛 in let W =
    walk_of 𝓛 En stayed c in let 𝓣 = tables 𝓤 𝓛.H 𝓜 𝓡 𝓡.env in
    let fn = init_fn E new in let Nn = new_ended E in let N =
    triple_of 𝓛 Nn.signature (closing 𝓛 Nn (new_clauses E New 𝓛)) in
    proved_at 𝓛 En stayed c 𝓜 𝓡 (
      Goes-blank 𝓛 0 (plain (λ _. Gl)) yes (λ κs x f. tt),
      (Goes-dropped 𝓛 0 (plain (λ _. RawPtr)) yes (λ κs x w. refl), tt),
    ) k fn closed (λ y are.
    let alloc = y.0.3.0 in let p = y.0.3.1.0 in let gs = y.0.4.0 in let us = y.0.4.1.0 in let gv = only gs in
    let is : gs ≡ gv ∷ [] = Lone-is gs (heap_laws.single alloc gs are.0) in
    let tg = typed Gl heap_laws 𝓛 alloc gv (subst (λ (zs : List Val). Is Gl alloc zs) is are.0) in
    let Run = λ (zs : List Val). WpFn 𝓤 𝓛.H 𝓣.C 𝓣.Λ fn zs (W.post y) in
    let zn : N.Ghost = ((tt, tt, tt, (alloc, tt), (gv ∷ [], tt)), tt) in
    qed 𝓛 ((‵ ftrue ⊛ ‵ (owns (Gl ∷ RawPtr ∷ []) y.0.3 y.0.4)) ∷ ‵ (room_at (T E) p) ∷ []) ∵
    split ! $ move ! (1 ∷ []) $ fsplit ! $ keep ! (3 ∷ 0 ∷ []) $
    in_a_block ! p (λ s. room_at (T E) s) (id⊢ 𝓤 _) (λ b o e. move ! (1 ∷ []) $
    rewrite ! 0 (λ (zs : List Val). ‵ (Gl.own_val alloc zs)) is refl $
    nothing ! $ move ! (1 ∷ 0 ∷ []) $ fjoin ! $ nothing ! $ join ! $ nothing ! $ move ! (1 ∷ 0 ∷ []) $ join ! $ use1 𝓛
    (raw (N.pre zn)) (id⊢ 𝓤 _) $
    let at : us ≡ vptr b o ∷ [] = rawptr_Tells p us are.1.0 ∙ ap rawptr_vals e in
    suffices ! (Run (gv ∷ vptr b o ∷ [])) (subst (λ (zs : List Val). ent 𝓤 (Run (gv ∷ vptr b o ∷ [])) (Run zs))
    (sym (λ i. is i ++ (at i ++ []))) (id⊢ 𝓤 (Run (gv ∷ vptr b o ∷ [])))) $
    enter ! _ _ _ _ _ $ alloc_all ! (λ l. pass_all ! refl (tg, ((tt, tt), tt)) $
    sets ! (of_opd ! (get ! refl)) refl (tt, tt) $
    calls_at ! (framed 𝓤 𝓛.H 𝓜 𝓣) N made zn (and_then ! (get ! refl) (no_more !)) (λ v.
    use1 𝓛 (later
    (some (λ (r : (T E).Denot). (‵ ftrue ⊛ ‵ ((T E).own_val r (v ∷ []))) ⊛ some
    (λ (ws : Lasts Nn tt (alloc, tt)). ‵ (lasts Nn tt (alloc, tt) ws) ⊛ raw (fact 𝓤 (New r)))))) (id⊢ 𝓤 _) $
    await ! tt $ pick ! (λ r. split ! $ split ! $ drop ! $ move ! (1 ∷ []) $ pick !
    (λ ws. split ! $ drop ! $ heard ! _ (λ is_new.
    peeks ! (T E) (Is (T E)) (shows 𝓛 (T E)) r (v ∷ []) (λ is_r. let t = typed (T E) E.laws 𝓛 r v is_r in
    lands_as ! refl refl t $ move ! (1 ∷ []) $
    -- [the room; what it is begun with; the locals]
    assigns ! (of_opd ! (get ! refl)) (through ! refl (stop !)) (init ! 0 refl t) $
    sets ! (of_opd ! (unit_lit !)) refl (tt, tt) $ returns ! (look_at ! 0 refl) $ free_all ! refl $
    use2 𝓛 (‵ (part_at (T E) full_share r b o)) (part_in 𝓛 (T E) E.laws.one full_share r b o v) $
    rewrite ! 0 (λ (s : Ptr). ‵ (lies_at (T E) full_share s r)) (sym e) refl $
    fpack ! ((d : (T E).Denot) × New d) (λ d. lies_at (T E) full_share p d.0) (r, is_new) $
    suffices ! _ (ends_at 𝓛 En stayed c y vunit tt (tt, (tt, tt)) (tt, (tt, tt))) $
    feq_i ! (List Val) (vunit ∷ []) (vunit ∷ []) refl $ nothing ! $ nothing ! $ fjoin ! $ nothing ! $ fjoin ! $
    nothing ! $ group ! 3 $ done !))))))))

-- ---- it ends
-- a call that takes a value of this type, and answers nothing
abbrev spends : RattleType → Ended
spends X = record {
  signature = record { lifetimes = 0; outlives = []; params = plain (λ _. X) ∷ []; result = plain (λ _. unit) };
  kept = (yes, tt);
}

module _ (E : Handle) where
  abbrev end_fn : Callee → Fn
  end_fn go = written 0 1 (ty_unit ∷ lone (R E).mir ∷ ty_ptr ∷ ty_unit ∷ lone (T E).mir ∷ lone (T E).mir ∷ ty_ptr
      ∷ ty_ptr ∷ [])
      (seq (assign (place 2 []) (rv_opd (copy (place 1 (field 0 ∷ [])))))
      (seq (block (seq (assign (place 6 []) (rv_opd (copy (place 2 []))))
      (seq (assign (place 7 []) (rv_opd (copy (place 6 []))))
      (assign (place 5 []) (rv_opd (copy (place 7 (deref (lone (T E).mir) ∷ []))))))))
      (seq (assign (place 4 []) (rv_opd (copy (place 5 []))))
      (seq (call go (copy (place 4 []) ∷ []) (place 3 [])) (seq (assign (place 0 []) (rv_opd opd_unit)) return)))))

  abbrev end_ended : Ended
  end_ended = spends (R E)

  abbrev end_clauses : {M : Type 1} {𝓤 : Ura M} (𝓛 : Logic 𝓤) → Clauses 𝓤 end_ended
  end_clauses {𝓤 = 𝓤} 𝓛 κs a = record {
    ghost = Unit {0};
    requires = λ _. emp 𝓤;
    ensures =
        λ _ _ _. sem 𝓛 (room_at (T E) (E.at a.0));
  }

  abbrev end_stays : Stays end_ended.signature.params end_ended.kept
  end_stays = (stay_dropped (plain (λ _. R E)) yes, tt)

  -- what releases all that is kept
  abbrev go_ended : Ended
  go_ended = spends (T E)

  abbrev go_clauses : {M : Type 1} {𝓤 : Ura M} (𝓛 : Logic 𝓤) → Clauses 𝓤 go_ended
  go_clauses {𝓤 = 𝓤} 𝓛 κs a = record { ghost = Unit {0}; requires = λ _. emp 𝓤; ensures = λ _ _ _. emp 𝓤 }

pub ends : (E : Handle) (go : Callee) {M : Type 1} (𝓤 : Ura M) (𝓛 : Logic 𝓤) (𝓜 : Model 𝓤 𝓛.H) (𝓡 : Running 𝓤 𝓛.H 𝓜)
    (k : Callee)
    → Keeps 𝓤 𝓛 𝓜 𝓡 go (go_ended E) (go_clauses E 𝓛) → IsCode 𝓤 𝓛 𝓜 𝓡 k (end_fn E go)
    → Keeps 𝓤 𝓛 𝓜 𝓡 k (end_ended E) (end_clauses E 𝓛)
ends E go 𝓤 𝓛 𝓜 𝓡 k gone closed =
    let En = end_ended E in let stayed = end_stays E in let c = end_clauses E 𝓛 in let W = walk_of 𝓛 En stayed c in
    let 𝓣 = tables 𝓤 𝓛.H 𝓜 𝓡 𝓡.env in
    let fn = end_fn E go in let Gn = go_ended E in let G = triple_of 𝓛 Gn.signature (closing 𝓛 Gn (go_clauses E 𝓛)) in
    proved 𝓛 En stayed c 𝓜 𝓡 (Goes-blank 𝓛 0 (plain (λ _. R E)) yes (λ κs x f. tt), tt) k fn closed
    (λ κs. ((λ h. word (E.at h) ∷ []), tt)) (λ κs. (Tells-lowered (owned E) (RawPtr-laws, tt), tt))
    (λ κs qs bounds a _ are.
    let h = a.0 in let x = E.state h in let ws = λ (p : Ptr). word p ∷ [] in
    let y : W.Ghost = ((κs, qs, bounds, a, (ws (E.at h), tt)), tt) in
    qed 𝓛 ((‵ ftrue ⊛ ‵ (owns (R E ∷ []) a (ws (E.at h), tt))) ∷ ‵ ftrue ∷ []) ∵
    split ! $ move ! (1 ∷ []) $ fsplit ! $ fsplit ! $ keep ! (1 ∷ []) $
    in_a_block ! (E.at h) (λ p. lies_at (T E) full_share p x) (id⊢ 𝓤 _) (λ b o e.
    regoal ! (λ p. prop (WpFn 𝓤 𝓛.H 𝓣.C 𝓣.Λ fn (ws p) (W.post y))) e refl $
    use1 𝓛 (some (λ (u : Val). ‵ (fat full_share (lone (T E).mir) b o u) ⊛ ‵ ((T E).own_val x (u ∷ []))))
    (part_out 𝓛 (T E) E.laws.one full_share x b o) $ pick ! (λ u. split ! $ move ! (1 ∷ []) $
    peeks ! (T E) (Is (T E)) (shows 𝓛 (T E)) x (u ∷ []) (λ is. let t = typed (T E) E.laws 𝓛 x u is in
    let zg : G.Ghost = ((tt, tt, tt, (x, tt), (u ∷ [], tt)), tt) in
    enter ! _ _ _ _ _ $ alloc_all ! (λ l. pass_all ! refl ((tt, (tt, tt)), tt) $
    -- [what is kept; its cell; the locals]
    sets ! (of_opd ! (get_in ! (fld ! refl (stop !)) (sub ! 0 refl (whole !)))) refl (tt, tt) $
    first ! $ blocks ! $
    sets ! (of_opd ! (get ! refl)) refl (tt, tt) $
    sets ! (of_opd ! (get ! refl)) refl (tt, tt) $
    sets_last ! (of_opd ! (load ! (through ! refl (stop !)) (look ! 1 refl))) refl t $
    exec ! 𝓣.C 𝓣.Λ (env fn.locals l) (after 2 fn.body) (at_ret _ (W.post y)) $
    sets ! (of_opd ! (get ! refl)) refl t $
    nothing ! $ move ! (1 ∷ 0 ∷ []) $ fjoin ! $ nothing ! $ join ! $ nothing ! $ move ! (1 ∷ 0 ∷ []) $ join ! $
    use1 𝓛 (raw (G.pre zg)) (id⊢ 𝓤 _) $
    calls_at ! (framed 𝓤 𝓛.H 𝓜 𝓣) G gone zg (and_then ! (get ! refl) (no_more !)) (λ v.
    use1 𝓛 (later
    (some (λ (r : Unit {0}). (‵ ftrue ⊛ ‵ (unit.own_val r (v ∷ []))) ⊛ some
    (λ (ws' : Lasts Gn tt (x, tt)). ‵ (lasts Gn tt (x, tt) ws') ⊛ ‵ ftrue)))) (id⊢ 𝓤 _) $
    await ! tt $ pick ! (λ r. split ! $ split ! $ drop ! $ feq_l ! (λ is_unit. pick ! (λ ws'. split ! $ drop ! $
    drop ! $ lands_as ! (ap only is_unit) refl (tt, tt) $
    sets ! (of_opd ! (unit_lit !)) refl (tt, tt) $ returns ! (look_at ! 0 refl) $ free_all ! refl $
    -- the block is room again
    use1 𝓛 (‵ (froom (lone (T E).mir) b o)) (𝓛.laws.at_room (lone (T E).mir) b o u) $
    rewrite ! 0 (λ (s : Ptr). ‵ (room_at (T E) s)) (sym e) refl $
    suffices ! _ (ends_at 𝓛 En stayed c y vunit tt (tt, tt) (tt, tt)) $
    feq_i ! (List Val) (vunit ∷ []) (vunit ∷ []) refl $ nothing ! $ nothing ! $ fjoin ! $ nothing ! $ group ! 3 $ done
    !)))))))))
