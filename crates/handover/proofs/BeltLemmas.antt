-- Each atomic step keeps the rule of the belt.
use Rattle.std.specs.Prelude.{IfNone, Option, None, Some}
use Rattle.std.proofs.Common.{◌≡◌, ◌≢◌, ◌<◌, ◌≤◌, ◌+◌, ◌⊎◌, ℕ, zero, suc, Bool, true, false, true≢false, cond, nat_eq, List, [], ◌∷◌, ◌++◌, All}
use Rattle.std.proofs.Common.{set, count_by, drop, filter, map, sym, refl, ap, ◌∙◌, subst, arith, append_assoc, append-nil, inl, inr, ⊎_elim, get_or}
use Rattle.std.proofs.Common.{length, length-append}
use Rattle.std.proofs.lemmas.Bool.{eq-eqb, ne_eqb}
use Rattle.std.proofs.lemmas.List.Elements.{All-append, All-cons, All-head, All-nil, All-tail, filter-append}
use Rattle.std.proofs.lemmas.List.{map-append, nil_from_length}
use Rattle.std.proofs.lemmas.List.Sums.{sum_by-append, sum_by-cons, sum_by_push}
use Rattle.crossbeam_queue.specs.Fifo.{Forks, Held, Learns, Merges, Pops, Pushes}
use Rattle.atomic_table.proofs.Lists.{at_set}
use mathlib.Core.Logic.{dite}
use mathlib.Core.Option.{some, some-injective, some-ne-none}
use native.Mathlib.Decide.{dec_le, ℕ_discrete}
use lib.ListN.{get_elem?}
use Rattle.std.proofs.Common.{add-zero}
use Rattle.std.specs.List.{range_with_len}
use Rattle.atomic_table.specs.Seated.{TableId}
use Rattle.handover.specs.Belts.{IsWhole, NothingLeft, Presented, left_of, notes_of, silent, with_first}
use Rattle.handover.specs.BeltRule.{Delivers, GetsNote, IsPrefix, KnowsItsNotes, PutsNote, HoldsTheRest, both_shares}
use Rattle.handover.specs.BeltRule.{first_notes, first_share, left_over, new_sender, notes_entry, owners, owns}
use Rattle.handover.specs.BeltRule.{receives}
use Rattle.handover.specs.BeltRule.{share, spent_share, with_sender, with_senders}
use Rattle.handover.specs.declared.belt.Share.{Share}
use Rattle.handover.proofs.SumLemmas.{each_push, each_set, sum_at, sum_set, sum_two}

is_one : (p q : ℕ) → p ≡ q → cond {A = ℕ} (nat_eq p q) 1 0 ≡ 1
is_one p q e = ap (λ (b : Bool). cond {A = ℕ} b 1 0) (eq-eqb p q e)

is_none : (p q : ℕ) → p ≢ q → cond {A = ℕ} (nat_eq p q) 1 0 ≡ 0
is_none p q e = ap (λ (b : Bool). cond {A = ℕ} b 1 0) (ne_eqb p q e)

off : false ≡ true → ⊥
off e = true≢false (sym e)

-- if `P` holds, `IfNone o P` holds for any option `o`
pub if_none : {T : Type 0} (o : Option T) (P : Type 0) → P → IfNone o P
if_none None P p = p
if_none (Some x) P p = tt

range_more : (a n : ℕ) → range_with_len a n ++ (a + n) ∷ [] ≡ range_with_len a (suc n)
range_more a zero = λ i. add-zero a i ∷ []
range_more a (suc n) =
    ap (λ (l : List ℕ). a ∷ l)
    (ap (λ (m : ℕ). range_with_len (a + 1) n ++ m ∷ []) (let e : a + suc n ≡ a + 1 + n = omega arith in e) ∙ range_more (a + 1) n)

module _ {N : Type 0} where
  pub begins : Delivers {N = N} [] (first_share ∷ [])
  begins = record {
    got = [];
    one_sender = λ p. omega arith;
    one_receiver = omega arith;
    holds = first_holds;
  }
    where
      first_holds : (j : ℕ) (v : Share N) → get_elem? (first_share {N = N} ∷ []) j ≡ some v → KnowsItsNotes {N = N} [] [] (owners {N = N} (first_share {N = N} ∷ [])) v
      first_holds zero v e =
          subst (KnowsItsNotes {N = N} [] [] (owners {N = N} (first_share {N = N} ∷ []))) (some-injective _ _ e)
          (record { senders = All-nil (λ e. e.1 ≡ notes_of {N = N} e.0 []); got_is = λ _. refl; unmade = λ _ p _. (refl, refl) })
      first_holds (suc j) v e = absurd (some-ne-none v (sym e))

  -- ---- notes of one sender

  notes-append : (p : ℕ) (xs ys : List (ℕ × N)) → notes_of p (xs ++ ys) ≡ notes_of p xs ++ notes_of p ys
  notes-append p xs ys =
      ap (λ (l : List (ℕ × N)). map (λ (m : ℕ × N). m.1) l) (filter-append (λ (m : ℕ × N). nat_eq p m.0) xs ys)
      ∙ map-append (λ (m : ℕ × N). m.1) (filter (λ (m : ℕ × N). nat_eq p m.0) xs) (filter (λ (m : ℕ × N). nat_eq p m.0) ys)

  pub notes_first : (p q : ℕ) (note : N) (more : List (ℕ × N)) → q ≡ p → notes_of q ((p, note) ∷ more) ≡ note ∷ notes_of q more
  notes_first p q note more e =
      ap (λ (b : Bool). map (λ (m : ℕ × N). m.1) (cond b ((p, note) ∷ filter (λ (m : ℕ × N). nat_eq q m.0) more) (filter (λ (m : ℕ × N). nat_eq q m.0) more)))
      (eq-eqb q p e)

  pub notes_other : (p q : ℕ) (note : N) (more : List (ℕ × N)) → q ≢ p → notes_of q ((p, note) ∷ more) ≡ notes_of q more
  notes_other p q note more e =
      ap (λ (b : Bool). map (λ (m : ℕ × N). m.1) (cond b ((p, note) ∷ filter (λ (m : ℕ × N). nat_eq q m.0) more) (filter (λ (m : ℕ × N). nat_eq q m.0) more)))
      (ne_eqb q p e)

  notes_grow : (p : ℕ) (note : N) (all : List (ℕ × N)) → notes_of p (all ++ (p, note) ∷ []) ≡ notes_of p all ++ note ∷ []
  notes_grow p note all = notes-append p all ((p, note) ∷ []) ∙ ap (λ (l : List N). notes_of p all ++ l) (notes_first p p note [] refl)

  notes_keep : (p q : ℕ) (note : N) (all : List (ℕ × N)) → q ≢ p → notes_of q (all ++ (p, note) ∷ []) ≡ notes_of q all
  notes_keep p q note all ne =
      notes-append q all ((p, note) ∷ []) ∙ ap (λ (l : List N). notes_of q all ++ l) (notes_other p q note [] ne) ∙ append-nil (notes_of q all)

  -- ---- senders of a pass

  unowned : (p : ℕ) (l : List (ℕ × List N)) → count_by (λ (e : ℕ × List N). nat_eq p e.0) l ≡ 0 → All (λ (e : ℕ × List N). e.0 ≢ p) l
  unowned p [] none = All-nil (λ (e : ℕ × List N). e.0 ≢ p)
  unowned p (e ∷ l) none =
      let s = sum_by-cons (λ (e : ℕ × List N). cond {A = ℕ} (nat_eq p e.0) 1 0) e l in
      All-cons (λ (e : ℕ × List N). e.0 ≢ p) e l (λ same. let a = is_one p e.0 (sym same) in absurd (omega arith)) (unowned p l (omega arith))

  receives_one : (v : Share N) → v.receives ≡ true → receives v ≡ 1
  receives_one v h = ap (λ (b : Bool). cond {A = ℕ} b 1 0) h

  -- ---- the steps

  pub pushes : (n id : ℕ) (v : Share N) (p : ℕ) (note : N) → v.senders ≡ (p, first_notes v.senders) ∷ []
      → Pushes Delivers n id v (p, note) (PutsNote v (p, note))
  pushes n id v p note is items views room d at =
      let w : Share N = share ((p, first_notes v.senders ++ note ∷ []) ∷ []) v.receives v.made v.got in
      let all : List (ℕ × N) = d.got ++ items in
      let more : (all ++ (p, note) ∷ []) ≡ d.got ++ (items ++ (p, note) ∷ []) = append_assoc d.got items ((p, note) ∷ []) in
      let mine = d.holds id v at in
      let same : (q : ℕ) → owns q w ≡ owns q v = λ q. sym (ap (λ (l : List (ℕ × List N)). count_by (λ (e : ℕ × List N). nat_eq q e.0) l) is) in
      let owned : (q : ℕ) → owners (set views id w) q ≡ owners views q = λ q. (let s = sum_set (owns q) views id v w at in let o = same q in omega arith) in
      let has : owns p v ≡ 1 =
      (let a = same p in let b = is_one p p refl in
      let c = sum_by-cons (λ (e : ℕ × List N). cond {A = ℕ} (nat_eq p e.0) 1 0) (p, first_notes v.senders ++ note ∷ []) [] in omega arith) in
      let present : 1 ≤ owners views p = (let s = sum_at (owns p) views id v at in omega arith) in
      let first : first_notes v.senders ≡ notes_of p all =
      All-head (λ (e : ℕ × List N). e.1 ≡ notes_of e.0 all) (p, first_notes v.senders) []
      (subst (All (λ (e : ℕ × List N). e.1 ≡ notes_of e.0 all)) is mine.senders) in
      let unmade : (u : Share N) → KnowsItsNotes all d.got (owners views) u → u.receives ≡ true → (q : ℕ) → (q ≡ 0) ⊎ (u.made < q)
      → (notes_of q (all ++ (p, note) ∷ []) ≡ []) × (owners (set views id w) q ≡ 0) =
      λ u h r q un. (
        notes_keep p q note all (λ e. let b : owners views p ≡ 0 = subst (λ (k : ℕ). owners views k ≡ 0) e (h.unmade r q un).1 in omega arith)
            ∙ (h.unmade r q un).0,
        owned q ∙ (h.unmade r q un).1,
      ) in (
        w,
        record {
          got = d.got;
          one_sender = λ q. let a = owned q in let b = d.one_sender q in omega arith;
          one_receiver = let s = sum_set receives views id v w at in let b = d.one_receiver in omega arith;
          holds = each_set (KnowsItsNotes (d.got ++ (items ++ (p, note) ∷ [])) d.got (owners (set views id w))) views id w
              (λ j u apart e.
              let h = d.holds j u e in
              let others : All (λ (e : ℕ × List N). e.0 ≢ p) u.senders =
              unowned p u.senders (let s = sum_two (owns p) views j id u v apart e at in let b = d.one_sender p in omega arith) in
              subst (λ (l : List (ℕ × N)). KnowsItsNotes l d.got (owners (set views id w)) u) more (record {
                senders = λ k z lt. h.senders k z lt ∙ sym (notes_keep p (get_or u.senders k z).0 note all (others k z lt));
                got_is = h.got_is;
                unmade = unmade u h;
              }))
              (subst (λ (l : List (ℕ × N)). KnowsItsNotes l d.got (owners (set views id w)) w) more (record {
                senders = All-cons (λ (e : ℕ × List N). e.1 ≡ notes_of e.0 (all ++ (p, note) ∷ [])) (p, first_notes v.senders ++ note ∷ []) []
                    (ap (λ (l : List N). l ++ note ∷ []) first ∙ sym (notes_grow p note all))
                    (All-nil (λ (e : ℕ × List N). e.1 ≡ notes_of e.0 (all ++ (p, note) ∷ [])));
                got_is = mine.got_is;
                unmade = unmade v mine;
              }));
        },
        refl,
      )

  pub pops : (id : ℕ) (v : Share N) → v.receives ≡ true → Pops Delivers id v (GetsNote v)
  pops id v may x items views d at =
      let w : Share N = share v.senders v.receives v.made (v.got ++ x ∷ []) in
      let got : List (ℕ × N) = d.got ++ x ∷ [] in
      let same : d.got ++ (x ∷ items) ≡ got ++ items = sym (append_assoc d.got (x ∷ []) items) in
      let mine = d.holds id v at in
      let owned : (q : ℕ) → owners (set views id w) q ≡ owners views q = λ q. (let s = sum_set (owns q) views id v w at in omega arith) in
      let there : (q : ℕ) → q ≡ x.0 → notes_of q (d.got ++ (x ∷ items)) ≢ [] =
      λ q e none. (let a : length (notes_of q d.got ++ (x.1 ∷ notes_of q items)) ≡ 0 =
      ap length (ap (λ (l : List N). notes_of q d.got ++ l) (sym (notes_first x.0 q x.1 items e)) ∙ sym (notes-append q d.got (x ∷ items)) ∙ none) in
      omega (arith, length-append (notes_of q d.got) (x.1 ∷ notes_of q items))) in
      let is_got : v.got ≡ d.got = mine.got_is may in (
        w,
        record {
          got = got;
          one_sender = λ q. let a = owned q in let b = d.one_sender q in omega arith;
          one_receiver = let s = sum_set receives views id v w at in let b = d.one_receiver in omega arith;
          holds = each_set (KnowsItsNotes (got ++ items) got (owners (set views id w))) views id w
              (λ j u apart e.
              let h = d.holds j u e in
              let no : u.receives ≡ true → ⊥ =
              λ r. (let s = sum_two receives views j id u v apart e at in let a = receives_one u r in let b = receives_one v may in let c = d.one_receiver in omega arith) in
              record {
                senders = subst (λ (l : List (ℕ × N)). All (λ (e : ℕ × List N). e.1 ≡ notes_of e.0 l) u.senders) same h.senders;
                got_is = λ r. absurd (no r);
                unmade = λ r. absurd (no r);
              })
              (record {
                senders = subst (λ (l : List (ℕ × N)). All (λ (e : ℕ × List N). e.1 ≡ notes_of e.0 l) v.senders) same mine.senders;
                got_is = λ r. ap (λ (l : List (ℕ × N)). l ++ x ∷ []) (mine.got_is r);
                unmade = λ r q un. (ap (notes_of q) (sym same) ∙ (mine.unmade r q un).0, owned q ∙ (mine.unmade r q un).1);
              });
        },
        record {
          got = refl;
          made = (
            elim (dec_le 1 x.0) [ yes h ↦ h | no h ↦ absurd (there x.0 refl (mine.unmade may x.0 (inl (omega arith))).0) ],
            elim (dec_le x.0 v.made) [ yes h ↦ h | no h ↦ absurd (there x.0 refl (mine.unmade may x.0 (inr (omega arith))).0) ],
          );
          prefixes = λ k z lt.
              let q : ℕ = (get_or v.senders k z).0 in (
                notes_of q items,
                mine.senders k z lt ∙ ap (notes_of q) (same ∙ ap (λ (l : List (ℕ × N)). (l ++ x ∷ []) ++ items) (sym is_got))
                    ∙ notes-append q (v.got ++ x ∷ []) items,
              );
        },
      )

  pub learns : (id : ℕ) (v : Share N) → v.receives ≡ true → Learns Delivers id v (HoldsTheRest v)
  learns id v may items views d at =
      let mine = d.holds id v at in
      subst (λ (l : List (ℕ × N)). All (λ (e : ℕ × List N). e.1 ≡ notes_of e.0 (l ++ items)) v.senders) (sym (mine.got_is may)) mine.senders

  pub forks : (id : ℕ) (v : Share N) → v.receives ≡ true → Forks Delivers id v (with_sender v) (new_sender v)
  forks id v may items views d at =
      let l : Share N = with_sender v in
      let r : Share N = new_sender v in
      let k : ℕ = v.made + 1 in
      let vs : List (Share N) = set views id l in
      let all : List (ℕ × N) = d.got ++ items in
      let mine = d.holds id v at in
      let unused : (notes_of k all ≡ []) × (owners views k ≡ 0) = mine.unmade may k (inr (omega arith)) in
      let owned : (q : ℕ) → owners (vs ++ r ∷ []) q ≡ owners views q + cond {A = ℕ} (nat_eq q k) 1 0 =
      λ q. (let s = sum_set (owns q) views id v l at in let t = sum_by_push (owns q) vs r in omega arith) in
      let not_one : (q : ℕ) → q ≢ k → owners (vs ++ r ∷ []) q ≡ owners views q = λ q ne. (let a = owned q in let b = is_none q k ne in omega arith) in
      record {
        got = d.got;
        one_sender = λ q. dite (ℕ_discrete q k)
            (λ e. let a = owned q in let b : owners views q ≡ 0 = subst (λ (n : ℕ). owners views n ≡ 0) (sym e) unused.1 in let c = is_one q k e in omega arith)
            (λ ne. let a = not_one q ne in let b = d.one_sender q in omega arith);
        one_receiver =
            let s = sum_set receives views id v l at in let t = sum_by_push receives vs r in let b = d.one_receiver in omega arith;
        holds = each_push (KnowsItsNotes all d.got (owners (vs ++ r ∷ []))) vs r
            (each_set (KnowsItsNotes all d.got (owners (vs ++ r ∷ []))) views id l
            (λ j u apart e.
            let h = d.holds j u e in
            let no : u.receives ≡ true → ⊥ =
            λ t. (let s = sum_two receives views j id u v apart e at in let a = receives_one u t in let b = receives_one v may in let c = d.one_receiver in omega arith) in
            record { senders = h.senders; got_is = h.got_is; unmade = λ t. absurd (no t) })
            (record {
              senders = mine.senders;
              got_is = mine.got_is;
              unmade = λ _ q un.
                  let m = mine.unmade may q (⊎_elim (λ z. inl z) (λ lt. inr (omega arith)) un) in
                  (m.0, not_one q (λ e. ⊎_elim (λ z. omega arith) (λ lt. omega arith) un) ∙ m.1);
            }))
            (record {
              senders = All-cons (λ (e : ℕ × List N). e.1 ≡ notes_of e.0 all) (k, []) [] (sym unused.0) (All-nil (λ (e : ℕ × List N). e.1 ≡ notes_of e.0 all));
              got_is = λ t. absurd (off t);
              unmade = λ t. absurd (off t);
            });
      }

  -- the senders 1 to n, with the sender n + 1 appended, are the senders 1 to n + 1
  pub senders_more : (name : TableId) (n : ℕ)
      → map (silent {N = N} name) (range_with_len 1 n) ++ silent {N = N} name (n + 1) ∷ [] ≡ map (silent {N = N} name) (range_with_len 1 (n + 1))
  senders_more name n =
      ap (λ (m : ℕ). map (silent {N = N} name) (range_with_len 1 n) ++ silent {N = N} name m ∷ []) (let e : n + 1 ≡ 1 + n = omega arith in e)
      ∙ sym (map-append (silent {N = N} name) (range_with_len 1 n) ((1 + n) ∷ []))
      ∙ ap (λ (l : List ℕ). map (silent {N = N} name) l) (range_more 1 n ∙ ap (range_with_len 1) (let e : suc n ≡ n + 1 = omega arith in e))

  pub forks_as : (id : ℕ) (v : Share N) (made : ℕ) → v ≡ share [] true made [] → Forks Delivers id v (with_sender v) (new_sender v)
  forks_as id v made is = forks id v (ap (λ (u : Share N). u.receives) is)

  -- ---- passes joined

  pub merges : (id : ℕ) (v : Share N) (other : ℕ) (u : Share N) → Merges Delivers id v other u (both_shares v u) spent_share
  merges id v other u items views d at apart there =
      let b : Share N = both_shares v u in
      let vs : List (Share N) = set views id b in
      let end : List (Share N) = set vs other spent_share in
      let all : List (ℕ × N) = d.got ++ items in
      let was : get_elem? views other ≡ some u =
      ⊎_elim (λ (x : (other ≡ id) × (b ≡ u)). absurd (apart x.0)) (λ (x : (other ≢ id) × (get_elem? views other ≡ some u)). x.1)
      (at_set views id other b u there) in
      let mine = d.holds id v at in
      let theirs = d.holds other u was in
      let owned : (q : ℕ) → owners end q ≡ owners views q =
      λ q. (let s = sum_set (owns q) views id v b at in let t = sum_set (owns q) vs other u spent_share there in
      let a = sum_by-append (λ (e : ℕ × List N). cond {A = ℕ} (nat_eq q e.0) 1 0) u.senders v.senders in omega arith) in
      record {
        got = d.got;
        one_sender = λ q. let a = owned q in let c = d.one_sender q in omega arith;
        one_receiver =
            let s = sum_set receives views id v b at in let t = sum_set receives vs other u spent_share there in let c = d.one_receiver in omega arith;
        holds = each_set (KnowsItsNotes all d.got (owners end)) vs other spent_share
            (λ j y _ e. each_set (KnowsItsNotes all d.got (owners end)) views id b
            (λ i z _ f. let h = d.holds i z f in
            record { senders = h.senders; got_is = h.got_is; unmade = λ r q un. ((h.unmade r q un).0, owned q ∙ (h.unmade r q un).1) })
            (record {
              senders = All-append (λ (e : ℕ × List N). e.1 ≡ notes_of e.0 all) u.senders v.senders theirs.senders mine.senders;
              got_is = mine.got_is;
              unmade = λ r q un. ((mine.unmade r q un).0, owned q ∙ (mine.unmade r q un).1);
            }) j y e)
            (record { senders = All-nil (λ (e : ℕ × List N). e.1 ≡ notes_of e.0 all); got_is = λ t. absurd (off t); unmade = λ t. absurd (off t) });
      }

  pub taken_more : (left old : List (Presented N)) (s : Presented N) (v w target : Share N) → old ≡ left ++ s ∷ [] → w ≡ with_senders (s ∷ []) v
      → with_senders old v ≡ target → with_senders left w ≡ target
  taken_more left old s v w target is one so_far =
      ap (λ (u : Share N). with_senders left u) one
      ∙ ap (λ (l : List (ℕ × List N)). share l v.receives v.made v.got)
      (sym (append_assoc (map notes_entry left) (notes_entry s ∷ []) v.senders)
      ∙ ap (λ (l : List (ℕ × List N)). l ++ v.senders) (sym (map-append notes_entry left (s ∷ [])))
      ∙ ap (λ (l : List (Presented N)). map notes_entry l ++ v.senders) (sym is))
      ∙ so_far

  drop_prefix : (prefix more : List N) → drop (length prefix) (prefix ++ more) ≡ more
  drop_prefix [] more = refl
  drop_prefix (x ∷ xs) more = drop_prefix xs more

  -- what was received from a sender is a prefix of the notes on its pass, for each pass that was handed back
  pub told : (passes : List (Presented N)) (v : Share N) (items : List (ℕ × N)) → v.senders ≡ []
      → HoldsTheRest (with_senders passes v) items
      → All (λ (p : Presented N). IsPrefix (notes_of p.number v.got) p.notes) passes
  told passes v items none tells = go passes (subst (λ (l : List (ℕ × List N)). All (λ (e : ℕ × List N). e.1 ≡ notes_of e.0 (v.got ++ items)) l)
      (ap (λ (l : List (ℕ × List N)). map notes_entry passes ++ l) none ∙ append-nil (map notes_entry passes)) tells)
    where
      go : (passes : List (Presented N))
          → All (λ (e : ℕ × List N). e.1 ≡ notes_of e.0 (v.got ++ items)) (map notes_entry passes)
          → All (λ (p : Presented N). IsPrefix (notes_of p.number v.got) p.notes) passes
      go [] all = All-nil (λ (p : Presented N). IsPrefix (notes_of p.number v.got) p.notes)
      go (p ∷ ps) all =
          All-cons (λ (p : Presented N). IsPrefix (notes_of p.number v.got) p.notes) p ps (
            notes_of p.number items,
            All-head (λ (e : ℕ × List N). e.1 ≡ notes_of e.0 (v.got ++ items)) (notes_entry p) (map notes_entry ps) all
                ∙ notes-append p.number v.got items,
          )
          (go ps (All-tail (λ (e : ℕ × List N). e.1 ≡ notes_of e.0 (v.got ++ items)) (notes_entry p) (map notes_entry ps)
          all))

  pub whole : (got : List (ℕ × N)) (passes : List (Presented N)) → All (λ (p : Presented N). IsPrefix (notes_of p.number got) p.notes) passes
      → All (IsWhole got) passes
  whole got passes prefixes k z lt =
      let p = get_or passes k z in
      let f = prefixes k z lt in
      let prefix = notes_of p.number got in
      ap (λ (l : List N). prefix ++ l) (ap (λ (l : List N). drop (length prefix) l) f.1 ∙ drop_prefix prefix f.0) ∙ sym f.1

  -- the notes left over according to the rule are those that contracts see
  pub seen_remainder : (passes : List (Presented N)) (v : Share N) → v.senders ≡ []
      → map (left_over v.got) (with_senders passes v).senders ≡ map (left_of v.got) passes
  seen_remainder passes v none =
      ap (λ (l : List (ℕ × List N)). map (left_over v.got) l)
      (ap (λ (l : List (ℕ × List N)). map notes_entry passes ++ l) none ∙ append-nil (map notes_entry passes)) ∙ go passes
    where
      go : (passes : List (Presented N)) → map (left_over v.got) (map notes_entry passes) ≡ map (left_of v.got) passes
      go [] = refl
      go (p ∷ ps) = λ i. left_of v.got p ∷ go ps i

  pub prefixes_kept : (v : Share N) (items : List (ℕ × N)) → HoldsTheRest v items
      → All (λ (e : ℕ × List N). IsPrefix (notes_of e.0 v.got) e.1) v.senders
  prefixes_kept v items tells k z lt =
      let e = get_or v.senders k z in
      (notes_of e.0 items, tells k z lt ∙ notes-append e.0 v.got items)

  -- ---- notes taken from those that are left

  took_one : (got : List (ℕ × N)) (x : ℕ × N) (e : ℕ × List N) → IsPrefix (notes_of e.0 (got ++ x ∷ [])) e.1
      → left_over got e ≡ with_first x.0 x.1 (left_over (got ++ x ∷ []) e)
  took_one got x e f =
      let prefix = notes_of e.0 got in
      let now : drop (length (notes_of e.0 (got ++ x ∷ []))) e.1 ≡ f.0 =
      ap (λ (l : List N). drop (length (notes_of e.0 (got ++ x ∷ []))) l) f.1 ∙ drop_prefix (notes_of e.0 (got ++ x ∷ [])) f.0 in
      dite (ℕ_discrete e.0 x.0)
      (λ same.
      let grown : notes_of e.0 (got ++ x ∷ []) ≡ prefix ++ x.1 ∷ [] =
      notes-append e.0 got (x ∷ []) ∙ ap (λ (l : List N). prefix ++ l) (notes_first x.0 e.0 x.1 [] same) in
      let was : drop (length prefix) e.1 ≡ x.1 ∷ f.0 =
      ap (λ (l : List N). drop (length prefix) l) (f.1 ∙ ap (λ (l : List N). l ++ f.0) grown ∙ append_assoc prefix (x.1 ∷ []) f.0)
      ∙ drop_prefix prefix (x.1 ∷ f.0) in
      λ i. (
        e.0,
        (was ∙ ap (λ (l : List N). x.1 ∷ l) (sym now)
            ∙ sym (ap (λ (b : Bool). cond b (x.1 ∷ drop (length (notes_of e.0 (got ++ x ∷ []))) e.1) (drop (length (notes_of e.0 (got ++ x ∷ []))) e.1)) (eq-eqb e.0 x.0 same))) i,
      ))
      (λ apart.
      let kept : notes_of e.0 (got ++ x ∷ []) ≡ prefix = notes_keep x.0 e.0 x.1 got apart in
      λ i. (
        e.0,
        (ap (λ (l : List N). drop (length l) e.1) (sym kept)
            ∙ sym (ap (λ (b : Bool). cond b (x.1 ∷ drop (length (notes_of e.0 (got ++ x ∷ []))) e.1) (drop (length (notes_of e.0 (got ++ x ∷ []))) e.1)) (ne_eqb e.0 x.0 apart))) i,
      ))

  pub took : (got : List (ℕ × N)) (x : ℕ × N) (senders : List (ℕ × List N)) → All (λ (e : ℕ × List N). IsPrefix (notes_of e.0 (got ++ x ∷ [])) e.1) senders
      → map (left_over got) senders ≡ map (with_first x.0 x.1) (map (left_over (got ++ x ∷ [])) senders)
  took got x [] prefixes = refl
  took got x (e ∷ es) prefixes = λ i.
      took_one got x e (All-head (λ (e : ℕ × List N). IsPrefix (notes_of e.0 (got ++ x ∷ [])) e.1) e es prefixes) i
      ∷ took got x es (All-tail (λ (e : ℕ × List N). IsPrefix (notes_of e.0 (got ++ x ∷ [])) e.1) e es prefixes) i

  left_none : (got : List (ℕ × N)) (senders : List (ℕ × List N)) → All (λ (e : ℕ × List N). e.1 ≡ notes_of e.0 got) senders
      → All (λ (e : ℕ × List N). e.1 ≡ []) (map (left_over got) senders)
  left_none got [] whole = All-nil (λ (e : ℕ × List N). e.1 ≡ [])
  left_none got (e ∷ es) whole =
      let prefix = notes_of e.0 got in
      let is : e.1 ≡ prefix = All-head (λ (e : ℕ × List N). e.1 ≡ notes_of e.0 got) e es whole in
      All-cons (λ (e : ℕ × List N). e.1 ≡ []) (left_over got e) (map (left_over got) es)
      (ap (λ (l : List N). drop (length prefix) l) (is ∙ sym (append-nil prefix)) ∙ drop_prefix prefix [])
      (left_none got es (All-tail (λ (e : ℕ × List N). e.1 ≡ notes_of e.0 got) e es whole))

  -- if the queue is empty, `NothingLeft` holds: no notes are left of the senders whose passes were handed back
  pub none_left : (v : Share N) → Held 0 (HoldsTheRest v)
      → NothingLeft (record { workers = v.made; lists = map (left_over v.got) v.senders })
  none_left v (items, none, tells) =
      let empty : items ≡ [] = nil_from_length items none in
      left_none v.got v.senders (subst (λ (l : List (ℕ × N)). All (λ (e : ℕ × List N). e.1 ≡ notes_of e.0 l) v.senders)
      (ap (λ (l : List (ℕ × N)). v.got ++ l) empty ∙ append-nil v.got) tells)
