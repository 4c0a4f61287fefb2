-- What is written for nodes stays, and their lines have the places of their types.
use Rattle.std.proofs.Common.{◌≡◌, ℕ, suc, nat_eq, List, [], ◌∷◌, ◌++◌, length, Option, Some, None, refl, ap, sym, ◌∙◌}
use Rattle.std.proofs.Common.{arith, append-nil}
use Rattle.mw_types.specs.Types.{TypeExpression}
use Rattle.mw_infer.specs.Nodes.{NodeFacts}
use Rattle.mw_section.specs.Writing.{Writing, place_of, type_written}
use Rattle.mw_section.specs.WritingLaws.{IsContinued, all_written}
use Rattle.mw_section.proofs.Places.{IsAt, place_of_is, at_stays}
use Rattle.mw_section.proofs.LaterWrites.{continued_same, continued_more, continued_type, continued_classifier}
use Rattle.mw_section.proofs.LaterWrites.{number_at}
use Rattle.mw_section.proofs.RepeatedWrites.{written_here, written_later}
use Rattle.mw_agree.proofs.WrittenNodeLines.{AllWritten, IsNodeWritten, AreNodesWritten}
use Rattle.mw_made.specs.Making.{line_ended, node_written, nodes_written}

-- what was written before stays
pub continued_all : (ts : List TypeExpression) (w : Writing) → IsContinued w (all_written ts w).writing
continued_all [] w = continued_same w
continued_all (t ∷ ts) w =
    let a = (type_written t w).writing in continued_more w a _ (continued_type t w) (continued_all ts a)

pub continued_end : (c : Option ℕ) (ps : List ℕ) (w : Writing) → IsContinued w (line_ended c ps w).writing
continued_end None ps w = continued_same w
continued_end (Some c) ps w = continued_classifier c w

pub continued_node : (x : NodeFacts) (w : Writing) → IsContinued w (node_written x w).writing
continued_node x w =
    let a = all_written x.types w in
    continued_more w a.writing _ (continued_all x.types w) (continued_end x.classifier a.places a.writing)

pub continued_nodes : (facts : List NodeFacts) (w : Writing) → IsContinued w (nodes_written facts w).writing
continued_nodes [] w = continued_same w
continued_nodes (x ∷ facts) w =
    let a = (node_written x w).writing in continued_more w a _ (continued_node x w) (continued_nodes facts a)

-- a number keeps its place where more comes behind
pub number_stays : (u k : ℕ) (us vs : List ℕ) → (more : List ℕ) × (vs ≡ us ++ more) → IsAt nat_eq u us k
    → IsAt nat_eq u vs k
number_stays u k us vs h g = rw h.1 (at_stays nat_eq u us h.0 k g)

module _ (v : Writing) where
  all_there : (ts : List TypeExpression) (w : Writing) → IsContinued (all_written ts w).writing v
      → AllWritten v (all_written ts w).places ts
  all_there [] w h = tt
  all_there (t ∷ ts) w h =
      let a = (type_written t w).writing in
      (written_later t _ a v (written_here t w) (continued_more a _ v (continued_all ts a) h), all_there ts a h)

  node_of : (ts : List TypeExpression) (c : Option ℕ) (ps : List ℕ) (w : Writing) → AllWritten v ps ts
      → IsContinued (line_ended c ps w).writing v
      → IsNodeWritten v (record { types = ts; classifier = c }) (line_ended c ps w).line
  node_of ts None ps w h g =
      record { places = ps; numbers = []; parts = sym (append-nil ps); types = h; classifier = refl }
  node_of ts (Some c) ps w h g =
      let k = number_stays c (place_of c w.classifiers) _ v.classifiers g.classifiers (number_at c w.classifiers) in
      let same : place_of c v.classifiers ≡ place_of c w.classifiers = place_of_is c v.classifiers ∙ k.here in
      record {
        places = ps;
        numbers = place_of c w.classifiers ∷ [];
        parts = refl;
        types = h;
        classifier = (
          record {
            here = sym (place_of_is c v.classifiers);
            within = let n = k.within in omega (arith, same, n);
          },
          ap (λ n. n ∷ []) (sym same),
        );
      }

  node_there : (x : NodeFacts) (w : Writing) → IsContinued (node_written x w).writing v
      → IsNodeWritten v x (node_written x w).line
  node_there x w h =
      let a = all_written x.types w in
      node_of x.types x.classifier a.places a.writing
      (all_there x.types w (continued_more a.writing _ v (continued_end x.classifier a.places a.writing) h)) h

  pub nodes_there : (facts : List NodeFacts) (w : Writing) → IsContinued (nodes_written facts w).writing v
      → AreNodesWritten v facts (nodes_written facts w).lines
  nodes_there [] w h = tt
  nodes_there (x ∷ facts) w h =
      let a = (node_written x w).writing in
      (node_there x w (continued_more a _ v (continued_nodes facts a) h), nodes_there facts a h)

-- a line for each node
pub nodes_count : (facts : List NodeFacts) (w : Writing) → length (nodes_written facts w).lines ≡ length facts
nodes_count [] w = refl
nodes_count (x ∷ facts) w = ap suc (nodes_count facts (node_written x w).writing)
