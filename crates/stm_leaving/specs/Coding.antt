-- A code for each kind of tree of a source, as those of programs have one (`stm_program/specs/Coding.antt`).
use Rattle.std.specs.Prelude.{◌≡◌, refl, [], ◌∷◌}
use Rattle.std.specs.Coded.{Coded, code_by}
use Rattle.std.proofs.Common.{ap}
use base.Stored.{Gv, gnil, gnum, gcons}
use Rattle.stm_program.specs.Coding.{coded_tree, node, number_in, alternative}
use Rattle.stm_program.specs.Coding.{encode_expression, decode_expression, decode_expression-encode}
use Rattle.stm_program.specs.Coding.{encode_condition, decode_condition, decode_condition-encode}
use Rattle.stm_program.specs.Coding.{encode_statement, decode_statement, decode_statement-encode}
use Rattle.stm_leaving.specs.Source.{Source, Sources, Copies, Plain, Choice, Items, Count, Return, Break, Continue, Nil, Next, NoCopy, Copy}

abbrev mutual
  pub encode_source : Source → Gv
  encode_source (Plain p) = node 0 (encode_statement p) gnil gnil gnil
  encode_source (Choice c a b) = node 1 (encode_condition c) (encode_sources a) (encode_sources b) gnil
  encode_source (Items cs) = node 2 (encode_copies cs) gnil gnil gnil
  encode_source (Count v e n b) = node 3 (gnum v) (encode_expression e) (gnum n) (encode_sources b)
  encode_source Return = node 4 gnil gnil gnil gnil
  encode_source Break = node 5 gnil gnil gnil gnil
  encode_source Continue = node 6 gnil gnil gnil gnil

  pub encode_sources : Sources → Gv
  encode_sources Nil = gnil
  encode_sources (Next s ss) = gcons (encode_source s) (encode_sources ss)

  pub encode_copies : Copies → Gv
  encode_copies NoCopy = gnil
  encode_copies (Copy c cs) = gcons (encode_sources c) (encode_copies cs)

abbrev mutual
  pub decode_source : Gv → Source
  decode_source (gcons (gnum t) (gcons a (gcons b (gcons c d)))) =
      alternative Return
      (Plain (decode_statement a) ∷ Choice (decode_condition a) (decode_sources b) (decode_sources c) ∷ Items (decode_copies a)
      ∷ Count (number_in a) (decode_expression b) (number_in c) (decode_sources d) ∷ Return ∷ Break ∷ Continue ∷ []) t
  decode_source _ = Return

  pub decode_sources : Gv → Sources
  decode_sources gnil = Nil
  decode_sources (gnum n) = Nil
  decode_sources (gcons a b) = Next (decode_source a) (decode_sources b)

  pub decode_copies : Gv → Copies
  decode_copies gnil = NoCopy
  decode_copies (gnum n) = NoCopy
  decode_copies (gcons a b) = Copy (decode_sources a) (decode_copies b)

mutual
  pub decode_source-encode : (s : Source) → decode_source (encode_source s) ≡ s
  decode_source-encode (Plain p) = ap Plain (decode_statement-encode p)
  decode_source-encode (Choice c a b) = λ i. Choice (decode_condition-encode c i) (decode_sources-encode a i) (decode_sources-encode b i)
  decode_source-encode (Items cs) = ap Items (decode_copies-encode cs)
  decode_source-encode (Count v e n b) = λ i. Count v (decode_expression-encode e i) n (decode_sources-encode b i)
  decode_source-encode Return = refl
  decode_source-encode Break = refl
  decode_source-encode Continue = refl

  pub decode_sources-encode : (ss : Sources) → decode_sources (encode_sources ss) ≡ ss
  decode_sources-encode Nil = refl
  decode_sources-encode (Next s ss) = λ i. Next (decode_source-encode s i) (decode_sources-encode ss i)

  pub decode_copies-encode : (cs : Copies) → decode_copies (encode_copies cs) ≡ cs
  decode_copies-encode NoCopy = refl
  decode_copies-encode (Copy c cs) = λ i. Copy (decode_sources-encode c i) (decode_copies-encode cs i)

abbrev pub coded_source : Coded Source
coded_source = code_by Gv coded_tree encode_source decode_source decode_source-encode

abbrev pub coded_sources : Coded Sources
coded_sources = code_by Gv coded_tree encode_sources decode_sources decode_sources-encode

abbrev pub coded_copies : Coded Copies
coded_copies = code_by Gv coded_tree encode_copies decode_copies decode_copies-encode
