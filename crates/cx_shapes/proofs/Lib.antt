pub mod ParamTypes
