-- What `==` says of two values, and of two items of a trace.
use Rattle.std.proofs.Common.{rules, ◌≡◌, Decides}
use Rattle.std.proofs.lemmas.Bool.Decides.{Decides-eqb, Decides-int_eq}
use Rattle.std.proofs.lemmas.Slice.Eq.{bytes_eq-Decides}
use Rattle.stm_steps.specs.declared.value.Value.{Value}
use Rattle.stm_steps.specs.declared.value.Value.TheVariants.{Text, Number}
use Rattle.stm_steps.specs.contracts.value.ValuePartialEq.TheImpl.{eq-value}
use Rattle.stm_steps.specs.declared.trace_item.TraceItem.{TraceItem}
use Rattle.stm_steps.specs.declared.trace_item.TraceItem.TheVariants.{Get, Rev}
use Rattle.stm_steps.specs.contracts.trace_item.TraceItemPartialEq.TheImpl.{eq-value as eq-item}

pub value_decides : (a b : Value) → Decides (eq-value.it a b) (a ≡ b)
value_decides (Text a) (Text b) = search (rules, bytes_eq-Decides)
value_decides (Number a) (Number b) = search (rules, Decides-int_eq)
value_decides a b = (λ e. cc, λ e. cc)

pub item_decides : (a b : TraceItem) → Decides (eq-item.it a b) (a ≡ b)
item_decides (Get k v) (Get q w) = search (rules, bytes_eq-Decides)
item_decides (Rev k m) (Rev q n) = search (rules, bytes_eq-Decides, Decides-eqb)
item_decides a b = (λ e. cc, λ e. cc)
