-- The search on a graph that passes its checks, with no fixed pair and the greatest budget: it is not refused and finds a
-- repair, unless it is stopped; and the lines of what it finds. Assumes nothing.
use mathlib.Core.Path.{◌≡◌, refl, sym, ◌∙◌, ap, ap₂, subst}
use mathlib.Core.Logic.{inl, inr}
use mathlib.Core.Bool.{true}
use mathlib.Core.List.{List}
use Prim.Native.Nat.{ℕ, ◌*◌, ◌-◌, ◌/◌, ◌≤◌}
use native.Mathlib.Nat.{mul-le-mul}
use native.Mathlib.Omega.{arith}
use lib.ListN.{length, take, drop, length-append}
use lib.Seq.{take_at}
use borrow.Author.Tests.{le-ltb, eq-eqb}
use Rattle.bits.proofs.Truth.{and_left, not_off}
use Rattle.std.specs.Prelude.{Result, Ok, Err}
use Rattle.graph.specs.declared.Refusal.{Refusal}
use Rattle.graph.specs.declared.Refusal.TheVariants.{TooManyVertices, WrongLength, BudgetTooLarge, NoRoom}
use Rattle.graph.specs.Check.{too_many, wrong_length, too_short}
use Rattle.graph.specs.Refusal.{first_of}
use Rattle.graph.specs.Graph.{IsGraph, edge}
use Rattle.graph.specs.Quad.{Clean}
use Rattle.graph.proofs.Leading.{fault_not_fine}
use Rattle.graph.proofs.Reading.{entries_graph}
use Rattle.graph.proofs.Refusals.{first_of_next, first_of_single, row_passes}
use Rattle.repair.specs.Pair.{is_pair, changeable, all, ascending}
use Rattle.repair.specs.Repair.{toll_of, toggled, Repair}
use Rattle.repair.proofs.Sets.{all_at, all_in}
use Rattle.repair.proofs.Room.{room_most}
use Rattle.repair.proofs.Toggling.{toggled_graph}
use Rattle.repair.proofs.Always.{always_repair}
use Rattle.search.specs.declared.Answer.{Answer}
use Rattle.search.specs.declared.Answer.TheVariants.{Stopped, Nothing, Repaired}
use Rattle.search.specs.Answer.{Promise, Over, Best, checks, too_large}
use Rattle.search.specs.Memory.{pairs}
use Rattle.lines.specs.Lines.{stopped_line}
use Rattle.lines.specs.Inner.{drawn_of, repair_lines, Checked}
use Rattle.lines.specs.Report as report
use Rattle.lines.proofs.Bounds.{page_short}
use Rattle.lines.proofs.Mending.{listed_inside}
use Rattle.lines.proofs.Drawn.{fine_drawn}

abbrev pub Answered : ℕ → List ℕ → List ℕ → List ℕ → Result Answer Refusal → List ℕ → Type 0
Answered n g ps list r after = Promise true n g ps report.budget report.limit list r after

-- n(n-1)/2 is at most 8,128
pub pairs_few : (n : ℕ) → n ≤ 128 → n * (n - 1) / 2 ≤ 8128
pairs_few n few =
    let less : n - 1 ≤ 127 = omega arith in
    let m : n * (n - 1) ≤ 128 * 127 = mul-le-mul few less in
    omega arith

module _ (n : ℕ) (g ps list : List ℕ) (ok : Checked n g ps) (room : length list ≡ 8128) where
  no_fault : first_of (checks n g ps report.budget list) ≡ Ok tt
  unfolding checks too_many wrong_length too_large too_short pairs
  no_fault =
      first_of_next _ _ (row_passes TooManyVertices (le-ltb 128 n ok.few)) ∙
      first_of_next _ _ (row_passes WrongLength (not_off (eq-eqb (length g) (n * n) ok.bytes))) ∙
      first_of_next _ _ (row_passes WrongLength (not_off (eq-eqb (length ps) (n * n) ok.costs))) ∙
      first_of_next _ _ ok.fine ∙ first_of_next _ _ ok.priced ∙
      first_of_next _ _ (row_passes BudgetTooLarge refl) ∙ first_of_single _ ∙
      row_passes NoRoom (le-ltb (length list) (n * (n - 1) / 2) (omega (arith, pairs_few n ok.few)))

  module _ {r : Result Answer Refusal} {after : List ℕ} (told : Answered n g ps list r after) where
    pub not_refused : {why : Refusal} → r ≡ Err why → ⊥
    not_refused e =
        fault_not_fine ((subst (λ x. Answered n g ps list x after) e told).refused ∙ no_fault)

    -- "Eight cannot occur here."
    pub not_nothing : {steps : ℕ} → r ≡ Ok (Nothing steps) → ⊥
    not_nothing e =
        let none = (subst (λ x. Answered n g ps list x after) e told).meant in
        let (all_edges, is, cheap) = always_repair n (edge n g) (entries_graph n g ok.fine) (toll_of ps) ok.loose ok.few in
        let dear = none.best all_edges is in
        omega arith

    pub stopped : {steps : ℕ} → r ≡ Ok (Stopped steps) → Over true n (edge n g) (toll_of ps) report.budget report.limit list steps after
    stopped e = (subst (λ x. Answered n g ps list x after) e told).meant

    pub repaired :
        {cost count steps : ℕ} → r ≡ Ok (Repaired cost count steps) →
        Best true n (edge n g) (toll_of ps) report.budget report.limit list cost count steps after
    repaired e = (subst (λ x. Answered n g ps list x after) e told).meant

  -- it is stopped
  module _ {steps : ℕ} {after : List ℕ} (over : Over true n (edge n g) (toll_of ps) report.budget report.limit list steps after) where
    pub stopped_paged : {now : List ℕ} → now ≡ stopped_line steps → report.Searched n (edge n g) (toll_of ps) now
    stopped_paged put = inl (record { over = over.more; line = put ∙ ap stopped_line over.limit })

  -- it finds a repair
  module _ {cost count steps : ℕ} {after : List ℕ} (best : Best true n (edge n g) (toll_of ps) report.budget report.limit list cost count steps after) where
    abbrev found : List ℕ
    found = best.repair

    abbrev is : Repair n (edge n g) (toll_of ps) found
    is = best.best.member

    pub list_room : count ≤ length after
    list_room = omega (arith, ap length best.written, length-append found (drop (length found) list), best.many)

    listed : take count after ≡ found
    listed = ap₂ take best.many best.written ∙ take_at found (drop (length found) list) (length found) refl

    found_pairs : all (is_pair n) found ≡ true
    unfolding changeable
    found_pairs = all_in (is_pair n) found (λ x m. and_left (is_pair n x) _ (all_at (changeable n (toll_of ps)) x found is.allowed m))

    found_clean : Clean n (toggled n (edge n g) found)
    found_clean = is.cleans

    graph_of_lem : IsGraph n (edge n g)
    graph_of_lem = entries_graph n g ok.fine

    abbrev page : List ℕ → List ℕ
    page repair = repair_lines n (edge n g) repair cost steps

    pub page_room : length (page (take count after)) ≤ 131072
    page_room =
        subst (λ repair. length (page repair) ≤ 131072) (sym listed)
        (page_short n ok.few (edge n g) (toggled n (edge n g) found) found cost steps
        (toggled_graph n (edge n g) graph_of_lem found)
        (room_most n (toll_of ps) found is.sorted is.allowed ok.few) (listed_inside n found found_pairs)
        (omega (arith, best.paid, best.best.within)) (omega (arith, best.counted, best.within)))

    pub list_right :
        (ascending (take count after) ≡ true) × (all (is_pair n) (take count after) ≡ true)
        × Clean n (toggled n (edge n g) (take count after))
    list_right =
        subst (λ repair. (ascending repair ≡ true) × (all (is_pair n) repair ≡ true) × Clean n (toggled n (edge n g) repair))
        (sym listed) (is.sorted, found_pairs, found_clean)

    pub graph_right : (n ≤ 128) × (g ≡ drawn_of n (edge n g)) × IsGraph n (edge n g)
    graph_right = (ok.few, fine_drawn n g ok.bytes ok.fine, graph_of_lem)

    whole : page (take count after) ≡ report.page_of n (edge n g) (toll_of ps) found
    unfolding report.page_of
    whole =
        ap page listed ∙
        ap₂ (λ c s. repair_lines n (edge n g) found c s) best.paid best.counted

    pub repaired_paged : {now : List ℕ} → now ≡ page (take count after) → report.Searched n (edge n g) (toll_of ps) now
    repaired_paged put = inr (record { within = best.within; repair = found; best = best.best; lines = put ∙ whole })
