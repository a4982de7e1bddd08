-- A closure of a generic function may go to another thread where all that it captured may.
use mathlib.Core.List.{List}
use Prim.Native.Nat.{ℕ}
use mir.Syntax.{Sym, Ty}
use denote.Exit.{Kept}
use denote.RattleType.{RattleType}
use denote.Param.{param, arg}
use denote.Param.Send.{IsSend, AllSend, param_send, arg_send, recorded_send, struct_send}
use denote.Struct.Struct.{Struct}
use denote.Struct.Declared.{shape}
use denote.Struct.Tuple.{TupleAt, type_at}

pub captures_send : (ν : Sym) (Ts : List RattleType) → AllSend (shape (type_at ν Ts)).fields → IsSend (TupleAt ν Ts)
captures_send ν Ts s = recorded_send (Struct (shape (type_at ν Ts))) _ _ (type_at ν Ts).to_one (struct_send (shape (type_at ν Ts)) s)

pub closure_send : (i : ℕ) (δ : Ty) (k : Kept) (ν : Sym) (Ts : List RattleType) → AllSend (shape (type_at ν Ts)).fields → IsSend (param i (arg δ k (TupleAt ν Ts)))
closure_send i δ k ν Ts s = param_send i (arg δ k (TupleAt ν Ts)) (arg_send δ k (TupleAt ν Ts) (captures_send ν Ts s))
